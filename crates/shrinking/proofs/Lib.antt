pub mod LoopLaws
mod WholeLaws
