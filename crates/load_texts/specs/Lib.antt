pub mod By
pub mod Means
pub mod Dumps
pub mod Refusals
pub mod Causes
pub mod Loading
pub mod Lines
pub mod Texts
