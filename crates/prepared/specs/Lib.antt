pub mod Answers
pub mod Prepared
pub mod Rebuilt
pub mod Shrunk
pub mod Steps
