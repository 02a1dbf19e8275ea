pub mod CountLaws
pub mod Marking
