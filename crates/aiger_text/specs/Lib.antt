pub mod Numbers
pub mod Lines
pub mod Rows
pub mod Symbols
pub mod Content
pub mod Refusals
pub mod Outcomes
pub mod Laws
