pub mod Meaning
pub mod Balances
pub mod Running
pub mod Entries
pub mod Journal
pub mod Deposits
