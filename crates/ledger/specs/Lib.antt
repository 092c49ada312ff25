pub mod View
pub mod Done
