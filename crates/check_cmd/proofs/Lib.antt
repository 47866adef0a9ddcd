pub mod KindNames
pub mod WholeCauses
pub mod Posing
pub mod Tables
pub mod Keeping
