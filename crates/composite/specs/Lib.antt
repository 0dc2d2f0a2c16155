pub mod Boxes
pub mod Children
pub mod Delivers
pub mod Trees
