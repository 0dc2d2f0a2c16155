mod CentreLaws
pub mod FoldLaws
pub mod Places
mod TotalLaws
