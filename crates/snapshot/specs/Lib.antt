pub mod Rising
pub mod Wrote
