pub mod Selects
pub mod Values
pub mod Fits
pub mod Nets
pub mod Fields
pub mod Given
pub mod Build
