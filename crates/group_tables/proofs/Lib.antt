pub mod Columns
pub mod Filling
