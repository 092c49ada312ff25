pub mod Fields
pub mod Verbs
pub mod Kinds
pub mod Commands
pub mod Faults
pub mod Openings
