pub mod Operands
pub mod Lines
pub mod Telling
pub mod Laws
