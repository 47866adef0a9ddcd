pub mod Digests
pub mod Problems
pub mod Causes
