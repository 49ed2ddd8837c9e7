-- For all crates above.
pub mod Objects
-- For this crate alone.
mod Ends
mod Sums
mod Trees
mod LeafValues
mod Words
mod Stand
mod CodeStand
mod InOrders
mod StandApart
mod Chains
mod Causes
mod Longest
mod ChainNeed
mod Where
mod Written
mod Stood
mod Spots
mod Initial
mod Addresses
mod Kept
mod FrameBytes
mod Placed
mod DataBank
mod DataStand
mod FlashStand
