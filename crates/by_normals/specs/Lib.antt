pub mod Normals
pub mod Steps
