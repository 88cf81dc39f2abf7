pub mod Answered
pub mod Trace
