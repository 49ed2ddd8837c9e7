pub mod Position
pub mod Pointed
pub mod Located
pub mod Messages
pub mod Recursion
pub mod Told
