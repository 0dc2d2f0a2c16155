pub mod Boxes
pub mod Numbers
