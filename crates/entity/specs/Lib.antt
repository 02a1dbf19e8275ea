pub mod Queue
pub mod Meaning
pub mod Change
pub mod Answers
pub mod Stored
pub mod Lent
