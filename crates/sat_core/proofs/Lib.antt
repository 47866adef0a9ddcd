pub mod Sets
pub mod Marks
pub mod Tracking
pub mod TakingIn
pub mod Resolving
mod Moving
mod Shrinking
pub mod Learning
pub mod FreshLemmas
pub mod Unmarking
pub mod BackLevel
pub mod EngineLemmas
pub mod Refuting
pub mod Entailment
pub mod Greatest
pub mod OrderLemmas
pub mod Chosen
pub mod Denying
pub mod Growing
pub mod SearchLemmas
pub mod GreatestModel
pub mod Assumptions
pub mod SolverLemmas
pub mod FreshBound
pub mod Importing
mod Explaining
pub mod TracingBack
