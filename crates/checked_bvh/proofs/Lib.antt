mod Endings
pub mod Grown
