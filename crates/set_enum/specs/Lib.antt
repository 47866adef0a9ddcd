pub mod Sets
pub mod Bounds
pub mod EnumState
pub mod Outcome
pub mod Standing
pub mod Certificate
