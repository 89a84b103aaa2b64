mod Turns
mod Loop
mod Law
mod Again
