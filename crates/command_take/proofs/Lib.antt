pub mod Taking
pub mod Kept
pub mod Whole
pub mod Told
