pub mod Lots
pub mod Worth
pub mod Positions
