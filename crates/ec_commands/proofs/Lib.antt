-- For the crates of the family.
pub mod RunComplete
pub mod Files
pub mod Named
pub mod Usage
-- For this crate alone.
mod Lines
mod Rows
mod Outs
mod RunParts
