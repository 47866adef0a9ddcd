pub mod By
pub mod Means
