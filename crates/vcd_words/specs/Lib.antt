pub mod Codes
pub mod Levels
pub mod Lines
pub mod Times
pub mod Words
