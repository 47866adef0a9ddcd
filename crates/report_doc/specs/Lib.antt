pub mod Json
pub mod Shape
pub mod Document
pub mod Lines
pub mod Errors
pub mod Sending
