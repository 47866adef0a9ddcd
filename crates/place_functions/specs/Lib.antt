pub mod Operands
pub mod Functions
pub mod Laws
pub mod Notes
