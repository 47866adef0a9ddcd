pub mod Contexts
pub mod Arms
pub mod WildDigits
pub mod Conditions
pub mod Parted
