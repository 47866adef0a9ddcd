pub mod MakeHolding
pub mod CheckHolding
pub mod SimHolding
pub mod FindHolding
mod Examples
pub mod Commands
pub mod ListingHolding
pub mod ReadNames
