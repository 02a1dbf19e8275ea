pub mod Sets
pub mod Forming
pub mod Grouping
pub mod Limits
pub mod Keyed
pub mod Listing
pub mod AnyOrder
pub mod Sheets
