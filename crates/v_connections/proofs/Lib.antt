pub mod PlaceLaws
pub mod PortLaws
