pub mod Steps
pub mod Heads
