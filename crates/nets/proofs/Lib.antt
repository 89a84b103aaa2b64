mod Turns
mod Stand
mod Body
pub mod Loop
pub mod Lows
