pub mod Keeping
pub mod Cases
pub mod KindNames
pub mod KnownKinds
