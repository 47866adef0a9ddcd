pub mod NameRows
pub mod OperandLaws
pub mod MemberLaws
pub mod ShownLaws
pub mod CycleSteps
pub mod WordLaws
pub mod SceneLaws
pub mod RunSteps
pub mod SetSteps
pub mod LineLaws
mod Examples
