mod Running
mod Spelled
