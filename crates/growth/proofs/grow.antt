pub mod Beginning
pub mod Finished
pub mod Going
pub mod Pending
pub mod Written
