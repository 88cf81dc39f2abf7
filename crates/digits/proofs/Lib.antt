pub mod DigitLaws
pub mod DecodeLaws
