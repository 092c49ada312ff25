pub mod Numerals
pub mod Minus
