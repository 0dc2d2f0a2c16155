pub mod AnswerLaws
pub mod PointThree
