pub mod Clamps
pub mod ClampLaws
pub mod Slots
