pub mod Numbers
pub mod Output
pub mod Positions
pub mod Ranges
pub mod Rows
pub mod Tree
pub mod Steps
