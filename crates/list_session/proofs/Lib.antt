pub mod OneForm
pub mod Chains
pub mod Taking
