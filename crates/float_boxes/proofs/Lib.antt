pub mod BoxLaws
mod FoldLaws
mod MinusZero
pub mod MovedLaws
pub mod NanLaws
pub mod TestLaws
