pub mod Finding
pub mod Lasts
pub mod Lent
pub mod Long
pub mod Trims
