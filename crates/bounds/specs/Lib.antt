pub mod CompositePointThree
pub mod Composites
pub mod PointThree
