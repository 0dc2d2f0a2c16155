pub mod steps
pub mod Walks
