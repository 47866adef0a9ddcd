pub mod Listed
pub mod Problems
pub mod Debugging
pub mod Sessions
pub mod Standing
pub mod Supposed
pub mod Causes
