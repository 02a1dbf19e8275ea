pub mod Flat
pub mod Ready
pub mod Metadata
pub mod Places
pub mod Steps
pub mod Tables
