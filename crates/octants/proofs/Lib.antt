pub mod AnswerLaws
mod EndLaws
mod ListLaws
mod PartLaws
pub mod WorkLaws
