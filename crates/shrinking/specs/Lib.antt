pub mod steps
pub mod Whole
