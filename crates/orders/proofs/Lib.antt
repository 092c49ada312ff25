pub mod Lawful
pub mod Sums
pub mod Places
pub mod Numbers
