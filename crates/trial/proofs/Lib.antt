mod StayLaws
pub mod TrialLaws
