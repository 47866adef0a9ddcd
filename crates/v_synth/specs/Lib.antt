pub mod Clocked
pub mod Net
pub mod Matches
pub mod Owned
pub mod Rows
