pub mod Runs
pub mod Headline
pub mod Kept
pub mod Yes
