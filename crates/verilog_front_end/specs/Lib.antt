pub mod Texts
pub mod Errors
pub mod Meaning
pub mod Refusals
pub mod FrontEnd
pub mod Laws
