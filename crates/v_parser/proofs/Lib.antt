pub mod ItemSteps
pub mod ItemLaws
pub mod ModuleSteps
pub mod ModuleLaws
pub mod FewParts
