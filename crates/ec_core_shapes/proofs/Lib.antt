-- For all crates above.
pub mod Told
-- For this crate alone.
mod Counted
mod Samples
