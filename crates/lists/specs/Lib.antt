pub mod Lists
pub mod Placed
