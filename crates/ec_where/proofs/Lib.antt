mod Bad
mod Files
mod Said
