pub mod Encoded
pub mod Watched
