pub mod AxisRule
mod Beginning
mod Counted
mod Counting
pub mod DivideLaws
mod LaneLaws
mod Parting
mod Steps
mod Uniting
