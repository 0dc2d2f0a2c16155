pub mod Reordering
pub mod Steps
