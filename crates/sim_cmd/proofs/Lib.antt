pub mod Ready
pub mod Shown
pub mod Causes
pub mod Keeping
