mod Noted
mod Shortened
mod Passes
mod Words
mod Valid
mod Stands
