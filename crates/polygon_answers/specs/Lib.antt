pub mod EdgesWork
pub mod Geometry
