pub mod Interface
pub mod PointThree
