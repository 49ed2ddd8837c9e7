pub mod Tables
pub mod Places
pub mod Least
pub mod Laws
