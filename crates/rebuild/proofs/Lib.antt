pub mod AnswerLaws
pub mod LinkTrace
pub mod MaterialOrder
pub mod OrderLaws
pub mod Unlinked
