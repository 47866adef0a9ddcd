pub mod Waved
pub mod Scenes
pub mod Writes
pub mod Names
pub mod Making
pub mod Writing
pub mod Laws
