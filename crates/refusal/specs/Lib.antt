pub mod Lines
pub mod Codes
pub mod Ends
pub mod Stops
