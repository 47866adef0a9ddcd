pub mod Fitting
pub mod Trials
