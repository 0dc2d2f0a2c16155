pub mod Input
pub mod Room
