pub mod Spans
pub mod Counts
