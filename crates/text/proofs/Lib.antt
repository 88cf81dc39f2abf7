pub mod Distinct
pub mod Spelled
pub mod KeptText
pub mod LineLaws
pub mod LinesRead
pub mod TextLaws
pub mod ReadTheorems
pub mod SamplesHold
