pub mod World
pub mod Insert
pub mod Remove
pub mod Walked
