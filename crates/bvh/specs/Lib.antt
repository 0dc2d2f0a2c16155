pub mod Build
pub mod Entry
pub mod Items
pub mod Promises
pub mod Steps
