pub mod Kinds
pub mod Steps
