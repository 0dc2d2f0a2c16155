pub mod Decode
pub mod Flat
pub mod Sizes
pub mod Table
