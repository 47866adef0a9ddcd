mod Examples
pub mod Statuses
pub mod Keeping
