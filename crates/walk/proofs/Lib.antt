mod Puts
mod Turns
mod Visits
mod Places
mod Going
