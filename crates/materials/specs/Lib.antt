pub mod Answers
pub mod Materials
pub mod Steps
