mod Judging
mod Passing
mod Powers
pub mod PremisesLaws
