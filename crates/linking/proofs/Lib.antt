pub mod LinkedLaws
mod Meshing
pub mod WrittenLaws
