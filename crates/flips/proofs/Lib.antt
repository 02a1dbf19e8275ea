pub mod Keeping
pub mod Counting
