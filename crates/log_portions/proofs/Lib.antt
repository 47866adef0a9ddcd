pub mod Joined
pub mod Writable
