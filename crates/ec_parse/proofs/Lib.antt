-- For all crates above.
pub mod Ends
-- For this crate alone.
mod Lists
mod Steps
mod StatementEnds
mod Parses
