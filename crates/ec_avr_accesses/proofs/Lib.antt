-- For this crate alone.
mod Places
mod Table
mod Laws
