pub mod BuildWork
pub mod Numbers
pub mod Trees
pub mod WalkAnswers
