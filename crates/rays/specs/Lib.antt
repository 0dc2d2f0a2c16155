pub mod Checks
pub mod Rays
pub mod Steps
