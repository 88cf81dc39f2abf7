pub mod Arrivals
pub mod Map
pub mod Nearest
