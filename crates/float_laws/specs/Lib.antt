pub mod ArithmeticStandard
pub mod CastStandard
pub mod RootStandard
pub mod RoundStandard
