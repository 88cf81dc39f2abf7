pub mod ArrivalLaws
pub mod LabelsBehind
pub mod Listing
pub mod ReachLaws
