pub mod Counting
pub mod Statuses
