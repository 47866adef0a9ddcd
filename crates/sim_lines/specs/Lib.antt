pub mod Lines
pub mod Shows
pub mod CanShow
pub mod Laws
pub mod Running
