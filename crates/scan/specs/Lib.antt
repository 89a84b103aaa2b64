pub mod Lines
pub mod Places
pub mod Keys
pub mod Ways
pub mod Pins
pub mod Edges
pub mod Inside
pub mod First
