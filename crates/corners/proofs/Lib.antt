pub mod CornerLaws
pub mod LinkLaws
