mod Cuts
mod Lines
