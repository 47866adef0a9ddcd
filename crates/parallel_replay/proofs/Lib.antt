pub mod FittingLaws
pub mod Crossing
pub mod SetLaws
