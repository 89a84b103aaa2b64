pub mod Falling
pub mod Nets
