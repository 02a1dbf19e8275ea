pub mod SparseSet
pub mod Answers
pub mod Stored
pub mod Columns
pub mod Changes
pub mod Start
