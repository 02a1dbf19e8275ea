pub mod Slots
pub mod Table
pub mod Rows
pub mod Listed
pub mod Checks
