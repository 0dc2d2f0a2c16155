pub mod Examples
mod Sizes
