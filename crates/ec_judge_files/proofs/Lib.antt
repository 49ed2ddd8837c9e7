-- For this crate alone.
mod Statuses
mod Machines
