pub mod RootLaws
pub mod WalkLaws
pub mod BindingLaws
mod MeansLaws
mod Unbroken
pub mod ItemWalkLaws
pub mod ScopeViews
