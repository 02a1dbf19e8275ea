pub mod Header
pub mod Meaning
pub mod Arranged
pub mod Fresh
pub mod KindLists
