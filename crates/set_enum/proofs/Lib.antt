pub mod Selecting
pub mod Bounding
pub mod Searching
pub mod Keeping
pub mod Adding
pub mod Advancing
pub mod Certifying
