pub mod Rule
pub mod steps
