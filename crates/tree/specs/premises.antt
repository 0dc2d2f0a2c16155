pub mod Faults
pub mod Judgement
