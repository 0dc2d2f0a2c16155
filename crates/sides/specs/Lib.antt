pub mod Links
pub mod Lists
pub mod Meaning
pub mod Sides
pub mod Steps
