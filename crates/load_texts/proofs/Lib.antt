pub mod Loaded
pub mod Ports
pub mod Statuses
pub mod Counting
pub mod Endings
