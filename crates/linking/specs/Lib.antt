pub mod Written
pub mod steps
