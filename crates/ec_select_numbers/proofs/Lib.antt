-- For this crate alone.
mod Beside
mod Bytes
mod Changed
mod Paired
mod Put
mod Added
mod Compared
mod Form
