mod Bytes
mod Tables
mod Walk
mod Objects
