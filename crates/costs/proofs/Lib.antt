mod Runs
mod Around
mod Meets
mod Root
mod Steps
mod Tiles
mod Written
