mod Halves
pub mod Sets
pub mod Lending
pub mod Slices
