pub mod Gathering
pub mod Stored
