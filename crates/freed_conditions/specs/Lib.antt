pub mod Kept
pub mod Widths
pub mod Freed
pub mod IsFreed
pub mod Alike
pub mod Old
pub mod Laws
