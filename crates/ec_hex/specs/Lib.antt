pub mod Bytes
pub mod Record
pub mod Denotes
pub mod Stops
pub mod Reading
pub mod Views
pub mod Text
pub mod Steps
