-- Lemmas about what is told at places.
mod Told
