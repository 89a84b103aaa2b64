pub mod Layers
pub mod Net
