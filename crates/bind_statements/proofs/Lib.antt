pub mod StepViews
pub mod WildSteps
pub mod Carried
pub mod ArmSteps
pub mod TurnLaws
pub mod StepLaws
pub mod NameLaws
pub mod ArmLaws
