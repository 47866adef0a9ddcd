pub mod Literal
pub mod Steps
pub mod Satisfaction
pub mod Resolution
pub mod Acceptance
pub mod Progress
pub mod Counted
