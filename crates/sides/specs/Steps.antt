pub mod Grouped
pub mod Linked
