pub mod Average
pub mod Boxes
pub mod Ends
pub mod Folding
pub mod Kept
pub mod Plain
pub mod Steps
