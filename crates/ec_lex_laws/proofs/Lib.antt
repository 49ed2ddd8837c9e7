mod Constants
mod Texts
