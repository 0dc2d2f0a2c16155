pub mod GrowLaws
pub mod Lawful
