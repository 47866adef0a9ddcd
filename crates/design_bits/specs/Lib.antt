pub mod Masks
pub mod Regions
pub mod Rows
pub mod Operands
pub mod Listed
pub mod Paths
pub mod Waits
pub mod Full
