pub mod RunSteps
pub mod CellLaws
pub mod GrowthLaws
pub mod SoundLaws
pub mod ConstantLaws
pub mod WordCells
pub mod StoreLaws
