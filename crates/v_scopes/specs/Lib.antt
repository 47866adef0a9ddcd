pub mod Outer
pub mod Around
pub mod PlaceAmong
pub mod Listed
pub mod NamedValues
pub mod ValueFor
pub mod Valued
pub mod Units
