pub mod Answers
pub mod Canonical
pub mod Halves
pub mod Polygons
