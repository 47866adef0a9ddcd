pub mod ModelValues
pub mod Places
