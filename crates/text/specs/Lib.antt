pub mod Text
pub mod Accepted
pub mod Read
pub mod Samples
pub mod Told
pub mod Steps
