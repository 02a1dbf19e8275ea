pub mod Slot
pub mod Clear
pub mod Registering
pub mod Owned
