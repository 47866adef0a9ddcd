pub mod Asked
pub mod Finding
pub mod Reading
pub mod Refusals
pub mod Sessions
pub mod Parts
pub mod Views
