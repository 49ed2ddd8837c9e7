pub mod Heights
pub mod Parts
