pub mod Numbers
pub mod Places
