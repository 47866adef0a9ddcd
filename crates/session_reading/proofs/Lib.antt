mod Examples
pub mod Causes
mod LoadedTexts
pub mod Compared
