pub mod Beginning
pub mod Exits
pub mod Invariant
pub mod Queueing
pub mod Rounds
