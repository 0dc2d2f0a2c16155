mod Amounts
pub mod CastLaws
pub mod ClampLaws
pub mod CmpLaws
mod CutSize
pub mod Exactness
pub mod ExtremeLaws
pub mod KeyLaws
mod Keys
pub mod Low16
pub mod Order
pub mod OrderLaws
pub mod Patterns
pub mod Relations
pub mod Rounding
pub mod SignLaws
mod Trichotomy
mod Truncation
mod WholePart
pub mod Wrap
