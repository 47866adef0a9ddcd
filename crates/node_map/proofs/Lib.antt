pub mod EntrySteps
pub mod MapSteps
pub mod PairSteps
