pub mod Views
pub mod Refuses
pub mod Unknown
pub mod Children
pub mod Addressed
pub mod Written
pub mod TreeTargets
