mod Examples
mod CheckpointExamples
pub mod Putting
pub mod Pairs
pub mod Steps
pub mod Sessions
pub mod SoFar
pub mod Opening
pub mod Turning
pub mod Ended
pub mod Finished
pub mod Silent
pub mod Runs
pub mod Others
pub mod Standing
pub mod Whole
pub mod Ongoing
pub mod Beside
pub mod Asides
pub mod Appended
pub mod Paused
pub mod CheckpointNamed
pub mod Saved
pub mod Turned
pub mod Around
pub mod Last
