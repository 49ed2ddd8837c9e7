mod Marks
mod Callers
mod Trees
