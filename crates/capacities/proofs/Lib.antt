mod Runs
mod Places
mod Keys
mod Steps
mod Going
mod Spreads
mod Judged
mod Layers
