pub mod Examples
mod Judging
mod Laying
pub mod Numbering
