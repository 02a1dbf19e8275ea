pub mod Grouped
pub mod Drafted
pub mod Sheets
