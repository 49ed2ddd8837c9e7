-- For all crates above.
pub mod Bits
pub mod PortRead
pub mod Runs
-- For this crate alone.
mod Bytes
mod Keeps
mod Placed
mod Reset
mod SameRun
mod Stack
mod Stays
mod TwoWords
mod Window
mod Decoded
mod Quiet
