pub mod Short
pub mod Left
pub mod Edges
pub mod Taken
pub mod Pins
