pub mod Within
pub mod Lists
pub mod Unions
pub mod Joins
pub mod Examples
