pub mod AtMost
pub mod Counting
pub mod InForms
pub mod Said
pub mod Steps
