pub mod Writing
pub mod Known
pub mod Listed
pub mod Parts
pub mod Sizes
pub mod Rolled
