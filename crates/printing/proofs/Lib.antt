pub mod Decimal
pub mod IoDigits
