pub mod Takings
pub mod Closing
pub mod Measuring
pub mod Named
pub mod Parts
pub mod Opening
