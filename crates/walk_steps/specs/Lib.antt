pub mod Boxes
pub mod Refusals
pub mod Step
pub mod Steps
