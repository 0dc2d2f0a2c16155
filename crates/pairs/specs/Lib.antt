pub mod Drawing
pub mod Judging
