pub mod EmitLaws
pub mod FlatLaws
pub mod PositionLaws
pub mod RangeLaws
pub mod SmallLaws
pub mod TableLaws
pub mod TreeLaws
pub mod WordLaws
