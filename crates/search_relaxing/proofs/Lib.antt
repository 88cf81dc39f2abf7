pub mod CountedLaws
pub mod TestLaws
pub mod UnfoundLaws
pub mod ChoiceLaws
