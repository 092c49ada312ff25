pub mod Lawful
pub mod Sums
