pub mod Burials
