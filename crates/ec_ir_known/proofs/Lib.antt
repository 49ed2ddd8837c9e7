-- For this crate alone.
mod Places
mod Converted
mod Combined
mod Held
mod Rows
