-- For this crate alone.
mod Samples
