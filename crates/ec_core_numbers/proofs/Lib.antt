mod Writes
mod Walk
