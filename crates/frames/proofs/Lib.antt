pub mod EditionLaws
pub mod RangeLaws
pub mod LimitLaws
pub mod FrameLaws
pub mod FaultLaws
pub mod TownLaws
