pub mod Circles
pub mod OneMeaning
pub mod Answers
mod Examples
