mod Zips
mod Lexed
mod Parsed
