pub mod Compiling
pub mod Carrying
pub mod Computing
