pub mod Circuits
pub mod Designs
pub mod Runs
pub mod Models
pub mod Encodes
