pub mod Clauses
pub mod Limits
pub mod Variables
pub mod Named
pub mod Fields
