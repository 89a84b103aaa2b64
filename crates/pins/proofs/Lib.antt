mod Entry
mod Turns
mod Law
