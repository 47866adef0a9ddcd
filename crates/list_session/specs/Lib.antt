pub mod Words
pub mod Unfit
pub mod Taken
pub mod Parts
