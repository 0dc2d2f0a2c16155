pub mod BuildLaws
pub mod BuildWorkLaws
pub mod WalkLaws
