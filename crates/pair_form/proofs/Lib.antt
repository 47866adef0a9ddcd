pub mod Settled
pub mod Bits
pub mod Ands
pub mod Differing
pub mod PairMeans
pub mod PairsMean
