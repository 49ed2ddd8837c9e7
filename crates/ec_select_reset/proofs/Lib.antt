mod Bare
mod Before
mod Reset
