pub mod Lines
pub mod Spelled
