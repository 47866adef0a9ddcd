pub mod Evaluated
pub mod Reads
pub mod Widths
pub mod Reading
pub mod Forms
