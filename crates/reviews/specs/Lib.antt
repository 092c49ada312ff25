pub mod Standings
pub mod Reviews
