pub mod Steps
pub mod Statements
pub mod Items
pub mod Modules
pub mod Designs
pub mod Runs
pub mod Sizes
pub mod Circles
pub mod SameLists
pub mod OneMeaning
mod Answers
