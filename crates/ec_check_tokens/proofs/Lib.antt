-- For this crate alone.
mod Reached
mod Passed
mod FirstTokens
mod Inside
mod Outside
mod Values
mod Bodies
mod Programs
mod Definers
mod Order
mod Functions
mod Objects
mod Structs
mod Shared
mod Samples
