pub mod Leaving
pub mod Places
