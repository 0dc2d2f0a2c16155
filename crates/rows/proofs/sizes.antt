pub mod Filling
pub mod Sizing
