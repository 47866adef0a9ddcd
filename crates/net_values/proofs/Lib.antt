pub mod Words
pub mod Replaced
pub mod Picked
pub mod Nodes
pub mod Givens
