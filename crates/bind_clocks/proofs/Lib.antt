pub mod EntryLaws
pub mod ReadLaws
pub mod EdgeLaws
