pub mod Texts
pub mod Ascii
pub mod Sent
pub mod Newline
pub mod Same
pub mod Plain
