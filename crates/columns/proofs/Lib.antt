pub mod Refused
pub mod Items
pub mod Columns
