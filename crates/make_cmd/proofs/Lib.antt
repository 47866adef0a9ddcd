pub mod Asking
pub mod Texts
pub mod Spared
pub mod Reading
pub mod Keeping
