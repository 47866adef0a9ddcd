pub mod Firsts
pub mod Tables
pub mod LoopNames
pub mod Ported
pub mod Words
pub mod Scopings
pub mod Grounds
