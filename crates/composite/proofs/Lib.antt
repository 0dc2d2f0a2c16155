pub mod BoxLaws
pub mod Delivers
pub mod ItemLaws
pub mod TreeLaws
