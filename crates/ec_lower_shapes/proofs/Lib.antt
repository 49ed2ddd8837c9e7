-- For this crate alone.
mod Sizes
mod Bounds
mod Made
mod Changes
mod Roots
mod Fits
mod Whole
