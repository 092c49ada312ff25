pub mod Orders
pub mod Margins
pub mod Numbers
