pub mod Compares
pub mod Hits
pub mod Points
pub mod Sound
