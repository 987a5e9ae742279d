pub mod Books
pub mod Meaning
pub mod Operands
