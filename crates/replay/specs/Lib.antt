pub mod Recorded
pub mod Agreement
