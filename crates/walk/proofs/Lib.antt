mod Answers
pub mod Examples
mod FewStores
pub mod OutcomeLaws
mod PassLaws
mod Running
pub mod WalkLaws
