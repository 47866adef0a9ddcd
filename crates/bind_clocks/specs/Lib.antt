pub mod Rooted
pub mod Tables
pub mod Lists
pub mod Looks
pub mod Fields
pub mod Waits
