pub mod Judging
pub mod Values
pub mod Cores
pub mod Regions
pub mod Rules
pub mod Maps
