pub mod Examples
pub mod KindLaws
pub mod NanLaws
pub mod ReadBack
pub mod Sizes
