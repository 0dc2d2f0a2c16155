pub mod Firsts
pub mod Meshes
pub mod Moving
pub mod Normals
pub mod Rings
pub mod Steps
pub mod Triples
