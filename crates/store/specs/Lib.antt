pub mod Entries
pub mod Course
pub mod Linked
pub mod Theorems
pub mod Pieces
pub mod Ranging
