pub mod Contracts
pub mod Lanes
