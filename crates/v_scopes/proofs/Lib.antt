pub mod OutwardLaws
pub mod GivenLaws
pub mod TableLaws
