pub mod Lines
pub mod ReadBack
pub mod Runs
pub mod Values
pub mod Variables
