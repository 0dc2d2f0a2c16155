pub mod Answers
pub mod Octants
pub mod Work
pub mod Steps
