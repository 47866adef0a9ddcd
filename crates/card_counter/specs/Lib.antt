pub mod Places
pub mod Counter
pub mod Means
pub mod InForm
pub mod Shows
