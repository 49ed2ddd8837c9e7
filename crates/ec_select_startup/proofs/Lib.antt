mod Bytes
mod Turns
mod PerTurn
mod OneSpan
mod Whole
mod Words
mod ValidItems
