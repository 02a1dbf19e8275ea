pub mod Blocks
pub mod Checks
