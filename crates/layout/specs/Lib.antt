pub mod Layout
pub mod ByValue
pub mod Group
pub mod Reading
pub mod Fit
pub mod Grow
pub mod Add
