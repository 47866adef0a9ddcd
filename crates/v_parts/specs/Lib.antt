pub mod Productions
pub mod Reading
pub mod Seen
pub mod ItemSeen
pub mod Answers
