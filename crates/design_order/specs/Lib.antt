pub mod Circle
pub mod DriverOrder
pub mod Refusal
pub mod Rows
pub mod Running
pub mod Sources
