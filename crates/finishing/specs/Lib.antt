pub mod Filled
pub mod Stored
pub mod Steps
