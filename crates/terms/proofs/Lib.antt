pub mod Refused
pub mod Signs
pub mod Divisions
pub mod Shares
pub mod Timetable
pub mod Limits
pub mod Table
