mod Stands
mod Words
mod Valid
