pub mod Given
mod Shaping
