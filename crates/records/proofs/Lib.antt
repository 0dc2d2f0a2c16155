pub mod AxisLaws
mod Cutting
pub mod Examples
pub mod Fields
pub mod Fitting
pub mod HandWalk
pub mod Quantum
pub mod ReadBack
pub mod Sizes
