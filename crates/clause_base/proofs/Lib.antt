pub mod Accepted
pub mod Aligned
pub mod Sets
pub mod Soundness
