pub mod Examples
pub mod LookupLaws
pub mod ReadAgain
pub mod RecordLaws
