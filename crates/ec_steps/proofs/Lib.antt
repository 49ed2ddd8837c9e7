-- For this crate alone.
mod Ends
mod Numbers
