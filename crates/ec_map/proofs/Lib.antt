-- For all crates above.
pub mod Arrays
pub mod Made
-- For this crate alone.
mod Names
mod Kept
mod Counts
mod Sound
mod GoodPorts
mod Valid
