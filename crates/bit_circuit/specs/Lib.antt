pub mod Wires
pub mod Indexes
pub mod Sources
pub mod Nodes
pub mod Circuits
pub mod Meaning
pub mod Limits
pub mod Fields
