mod Unsafe
mod OneStep
mod Allowed
mod InMemory
