pub mod Tracing
pub mod Levels
pub mod Stopping
pub mod OneGoal
pub mod Tolerance
