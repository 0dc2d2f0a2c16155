pub mod Cuts
pub mod Every
pub mod Lists
pub mod LittleEndian
pub mod Sorted
