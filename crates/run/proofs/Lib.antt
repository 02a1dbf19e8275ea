pub mod Answers
pub mod Steps
pub mod Traces
pub mod Runs
