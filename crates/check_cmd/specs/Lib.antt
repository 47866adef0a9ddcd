pub mod Asked
pub mod Means
pub mod Table
pub mod Refusals
pub mod Lines
pub mod Checking
pub mod Parts
