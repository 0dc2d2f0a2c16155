pub mod Ends
pub mod Keys
pub mod Kept
pub mod Maxima
pub mod Nearness
pub mod Octants
pub mod Ranks
pub mod Shadows
