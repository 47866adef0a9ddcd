pub mod First
pub mod Literals
pub mod Refusals
pub mod Laws
pub mod Names
pub mod Ports
pub mod Naming
pub mod Doubles
