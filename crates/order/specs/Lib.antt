pub mod Density
pub mod Sums
pub mod Ready
