pub mod Skipping
pub mod Splitting
