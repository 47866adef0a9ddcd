pub mod Found
pub mod Utf8
pub mod Lists
pub mod Objects
pub mod Once
pub mod Digests
pub mod Writable
