pub mod EdgesWorkLaws
pub mod GeometryLaws
