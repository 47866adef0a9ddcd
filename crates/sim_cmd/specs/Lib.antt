pub mod Simulation
pub mod Ends
