pub mod Core
pub mod Gather
