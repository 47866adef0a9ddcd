pub mod Asked
pub mod Means
pub mod Refusals
pub mod Inputs
pub mod Within
