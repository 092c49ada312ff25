pub mod Sums
pub mod Posting
