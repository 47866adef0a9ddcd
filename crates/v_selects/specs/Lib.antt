pub mod Folding
pub mod Taken
pub mod Leaves
pub mod Integer
pub mod Capped
pub mod Named
pub mod Picked
pub mod Sizes
