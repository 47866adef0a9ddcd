pub mod Beginning
pub mod Counting
