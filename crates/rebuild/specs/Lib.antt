pub mod Rebuilding
pub mod Steps
