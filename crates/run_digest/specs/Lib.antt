pub mod Inputs
pub mod Feeding
