pub mod Output
pub mod Played
