pub mod Pair
pub mod Visit
pub mod WellFormed
pub mod premises
