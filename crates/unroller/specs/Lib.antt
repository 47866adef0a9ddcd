pub mod Cycles
pub mod Unrolls
pub mod Reads
pub mod Limits
pub mod Meaning
pub mod Inside
pub mod Fields
