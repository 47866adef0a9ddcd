pub mod Ascii
pub mod Bits
pub mod Name
pub mod NameTable
pub mod Rows
pub mod Sets
pub mod Word
pub mod formers
