mod LaneLaws
pub mod SameTurn
mod Shorts
pub mod StepLaws
