pub mod Claims
pub mod Conditions
pub mod Verdicts
pub mod Faults
pub mod Judging
