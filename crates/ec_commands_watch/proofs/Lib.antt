-- For the crates of the family.
pub mod Usage
-- For this crate alone.
mod Ports
mod Printing
mod Runs
mod Stops
