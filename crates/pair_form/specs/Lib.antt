pub mod Pairs
pub mod Following
pub mod AllPairs
