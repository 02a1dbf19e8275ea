pub mod Groups
pub mod ByNumber
pub mod Parts
