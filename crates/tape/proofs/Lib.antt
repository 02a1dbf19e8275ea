pub mod Serving
pub mod Playing
