pub mod Labels
pub mod Verdict
pub mod Reach
