pub mod RunningLaws
pub mod ChangeLaws
pub mod TableLaws
pub mod DeclaredPlaces
pub mod SiteLaws
pub mod SizeLaws
pub mod WatchLaws
pub mod PartLaws
pub mod RowLaws
pub mod KeptLaws
pub mod MomentLaws
pub mod CloseLaws
pub mod StableLaws
pub mod HoldLaws
pub mod TakeLaws
pub mod PieceLaws
pub mod GoingLaws
pub mod TraceLaws
pub mod BeginLaws
pub mod FinishLaws
pub mod PortLaws
pub mod AnswerLaws
pub mod DumpLaws
pub mod FitLaws
pub mod NearLaws
pub mod DeclaredLaws
mod Examples
mod ScopeExamples
