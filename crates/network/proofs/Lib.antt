pub mod TakenLaws
pub mod CornerLaws
pub mod FaultLaws
pub mod FramesChecked
pub mod LegLaws
pub mod NetworkLaws
pub mod SizeLaws
