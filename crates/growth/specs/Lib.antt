pub mod Grow
pub mod Steps
