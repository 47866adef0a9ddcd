pub mod Reading
pub mod Numerals
pub mod KindNames
pub mod Holding
pub mod SamePaths
pub mod PathFronts
