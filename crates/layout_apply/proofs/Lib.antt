pub mod Words
pub mod Arities
pub mod HeadSteps
pub mod HeadLoops
pub mod InForce
pub mod Regrouping
