pub mod Rows
pub mod Rings
pub mod Nets
