pub mod EntryWords
pub mod ItemWords
pub mod MarkedLaws
pub mod MeetLaws
pub mod Promises
