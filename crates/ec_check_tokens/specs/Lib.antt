-- Overflow states and first tokens, as the tokens of a unit have them.
pub mod States
pub mod FirstTokens
pub mod Parts
pub mod NodeStates
pub mod Definers
pub mod Objects
pub mod Shared
pub mod Laws
