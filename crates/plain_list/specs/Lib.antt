pub mod Candidates
pub mod Network
pub mod Assignments
pub mod Trial
pub mod Rightness
pub mod Groups
pub mod Rows
pub mod Search
