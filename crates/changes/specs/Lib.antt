pub mod Reached
pub mod Execution
pub mod Changes
pub mod Laws
pub mod Moments
pub mod Lists
