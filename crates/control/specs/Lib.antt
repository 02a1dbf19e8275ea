pub mod Entities
pub mod Lists
pub mod Refusals
pub mod Draft
