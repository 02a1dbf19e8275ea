pub mod Staged
pub mod Outcomes
