mod Lists
mod Steps
mod Members
mod Parts
mod Returns
