pub mod AllTried
mod SearchLaws
mod WholeLaws
pub mod WorkWithin
