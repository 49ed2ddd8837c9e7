-- For this crate alone.
mod Given
