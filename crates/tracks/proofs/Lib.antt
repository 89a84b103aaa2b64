mod Turns
mod Layers
mod Occupying
