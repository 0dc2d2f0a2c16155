pub mod Answering
pub mod BvhAnswering
pub mod KindLaws
pub mod MaterialLaws
pub mod Meshes
pub mod Rooms
pub mod Whole
