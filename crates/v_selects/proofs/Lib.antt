pub mod Indexes
pub mod Parted
pub mod Picking
pub mod NameLaws
