pub mod Literals
pub mod Nodes
pub mod Arena
pub mod Meaning
pub mod Laws
pub mod Fields
