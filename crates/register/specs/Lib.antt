pub mod Plots
pub mod Grounds
pub mod Shown
