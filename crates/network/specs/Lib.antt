pub mod Legs
pub mod LegBits
pub mod Faults
pub mod Network
pub mod Steps
