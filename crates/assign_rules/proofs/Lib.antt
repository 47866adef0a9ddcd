pub mod HomeLaws
pub mod WayLaws
pub mod OtherLaws
pub mod UserLaws
pub mod RaceLaws
