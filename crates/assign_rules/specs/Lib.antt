pub mod Ways
pub mod UsedBy
pub mod Racing
