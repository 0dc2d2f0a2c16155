pub mod Axes
pub mod Stored
pub mod Transform
pub mod Vec3s
