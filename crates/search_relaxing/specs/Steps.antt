pub mod Counted
pub mod Unfound
pub mod Choice
