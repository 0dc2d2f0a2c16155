pub mod CompositeLaws
pub mod CompositeWorkLaws
pub mod PointThree
mod Read
