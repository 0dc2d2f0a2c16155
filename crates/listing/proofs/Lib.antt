mod Children
mod Decimals
pub mod Examples
mod FewBoxes
mod Lining
mod Numbered
mod Putting
mod Records
mod Whole
