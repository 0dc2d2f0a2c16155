mod FieldLaws
mod LineLaws
mod Numbering
mod SignedWords
mod Spelling
mod TallyLaws
