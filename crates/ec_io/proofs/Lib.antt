-- For all crates above.
pub mod Sinks
pub mod Counting
-- For this crate alone.
mod Reading
mod Schedules
mod Named
mod Stores
