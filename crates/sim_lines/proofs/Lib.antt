pub mod ShownLaws
pub mod RunnerLaws
pub mod ShowsLaws
pub mod CycleLaws
pub mod EndLaws
pub mod TraceLaws
pub mod RightLaws
pub mod SomeLines
mod Examples
pub mod CheckLaws
