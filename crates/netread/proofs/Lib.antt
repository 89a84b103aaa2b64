mod PinTurns
mod Marked
mod Adds
mod Whole
