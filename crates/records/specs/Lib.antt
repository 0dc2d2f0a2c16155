pub mod Axis
pub mod Quantise
pub mod Records
pub mod Scale
pub mod Shorts
pub mod Steps
