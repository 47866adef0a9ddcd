pub mod Whole
pub mod Views
pub mod Means
pub mod Made
pub mod Children
pub mod Copies
