pub mod Counting
pub mod Walks
pub mod RunningLaws
pub mod SourceLaws
pub mod NeedLaws
