pub mod Places
pub mod Families
pub mod Ranges
pub mod Answers
pub mod Describing
pub mod Masking
