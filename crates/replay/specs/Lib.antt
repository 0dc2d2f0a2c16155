pub mod Answers
pub mod Lines
pub mod Numbers
pub mod Operations
pub mod Outcomes
pub mod Tallies
