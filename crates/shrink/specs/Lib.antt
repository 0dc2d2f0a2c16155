pub mod Clamping
pub mod Costs
pub mod Margins
pub mod Searching
pub mod Shrinking
pub mod Steps
