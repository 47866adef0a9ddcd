pub mod Parts
pub mod Wires
pub mod Registers
pub mod Grounds
