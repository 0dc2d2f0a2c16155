pub mod Steps
pub mod Trials
