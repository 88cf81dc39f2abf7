pub mod Taken
pub mod Corners
pub mod Checks
