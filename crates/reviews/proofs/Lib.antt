pub mod Idle
pub mod Kept
pub mod Required
pub mod Twice
