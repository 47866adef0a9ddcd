pub mod Every
pub mod Listed
pub mod OfText
pub mod Written
pub mod Fit
pub mod Whole
pub mod Scopes
