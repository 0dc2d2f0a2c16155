pub mod Checks
pub mod Meshes
pub mod Sizes
pub mod Work
pub mod Steps
