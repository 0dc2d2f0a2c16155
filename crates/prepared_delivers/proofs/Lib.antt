mod Boxes
pub mod Delivers
mod Orders
pub mod Places
pub mod Prepared
