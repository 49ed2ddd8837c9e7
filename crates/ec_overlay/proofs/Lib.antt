-- For all crates above.
pub mod Objects
pub mod Programs
-- For this crate alone.
mod Most
mod Counted
mod Overlaid
