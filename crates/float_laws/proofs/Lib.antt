pub mod CountLaws
pub mod Halving
pub mod Monotone
pub mod root
pub mod RoundError
pub mod ScaledCasts
pub mod Standard
pub mod SumError
