pub mod Headed
pub mod Places
pub mod Declarations
pub mod Connected
