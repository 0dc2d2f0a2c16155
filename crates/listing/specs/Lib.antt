pub mod Lines
pub mod Listing
pub mod Reading
pub mod Text
