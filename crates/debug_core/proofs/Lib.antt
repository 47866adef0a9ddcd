pub mod Selected
pub mod Blocked
pub mod Fronts
pub mod OfForm
pub mod Logs
pub mod Encoded
pub mod Refusals
pub mod Debuggers
pub mod Steps
pub mod Rooms
mod FewCycles
pub mod Certified
pub mod Finishing
pub mod Counting
pub mod Given
pub mod Sessions
mod Supposing
