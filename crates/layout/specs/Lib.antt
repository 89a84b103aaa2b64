pub mod Bounds
pub mod Dirs
pub mod Shapes
pub mod Parts
pub mod Fill
pub mod Areas
pub mod Table
pub mod Lent
