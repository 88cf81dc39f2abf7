pub mod Edition
pub mod Frame
pub mod Decoded
pub mod Ranges
pub mod Faults
pub mod Follows
pub mod Steps
