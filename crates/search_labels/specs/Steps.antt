pub mod Keys
pub mod Labels
pub mod Begin
pub mod Queued
pub mod Relax
pub mod Search
