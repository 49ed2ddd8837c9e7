pub mod Cuts
pub mod Raises
pub mod Brought
pub mod FormatLaws
