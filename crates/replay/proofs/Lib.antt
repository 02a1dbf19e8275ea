pub mod Comparing
pub mod Agreeing
