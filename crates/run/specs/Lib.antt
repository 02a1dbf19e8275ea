pub mod Run
pub mod Stepping
