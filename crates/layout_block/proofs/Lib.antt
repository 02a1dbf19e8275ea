pub mod Agree
pub mod Copying
pub mod Checking
pub mod Transfer
pub mod Buildable
