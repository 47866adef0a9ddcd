pub mod Digits
pub mod Once
pub mod SetRows
pub mod Spelling
pub mod Pushing
pub mod Writing
pub mod PlacesOnce
pub mod Saying
