pub mod State
pub mod Valuation
pub mod Calls
pub mod Laws
