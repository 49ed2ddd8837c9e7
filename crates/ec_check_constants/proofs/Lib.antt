-- Lemmas about the test.
mod Weights
mod Runs
mod Forms
mod Types
mod Tests
