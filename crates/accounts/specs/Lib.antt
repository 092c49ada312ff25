pub mod States
pub mod Review
pub mod Withdrawals
