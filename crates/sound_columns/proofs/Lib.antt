pub mod SlotLaws
pub mod Checking
