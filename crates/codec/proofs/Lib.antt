pub mod Front
pub mod Low
pub mod Numbers
