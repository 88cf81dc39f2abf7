pub mod Between
pub mod Meeting
