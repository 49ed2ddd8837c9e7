pub mod Parts
pub mod Fault
pub mod Notices
pub mod Advice
