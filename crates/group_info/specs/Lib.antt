pub mod Info
pub mod Describes
