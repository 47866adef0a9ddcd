pub mod OneDriverLaws
pub mod DrivenWithin
pub mod TallyLaws
pub mod FirstTwice
pub mod FirstLatch
pub mod MentionsWithin
pub mod UsedLaws
pub mod FirstUndriven
