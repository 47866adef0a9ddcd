pub mod TurningLaws
pub mod StatementViews
pub mod GatherSteps
pub mod LoopSteps
