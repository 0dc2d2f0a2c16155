pub mod Chosen
pub mod Examples
pub mod Fractions
pub mod Grid
pub mod Neighbours
pub mod Standard
pub mod Unique
