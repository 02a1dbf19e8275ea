pub mod Kept
pub mod Frames
pub mod Becomes
pub mod LayoutWords
pub mod Steps
pub mod EmptyStore
pub mod KindLists
