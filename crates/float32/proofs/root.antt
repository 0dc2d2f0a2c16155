pub mod Cases
mod Cubic
pub mod Iteration
pub mod Kept
pub mod Radicand
pub mod Scaling
pub mod WholeRoot
pub mod Written
