pub mod Rows
pub mod Kept
pub mod Combinations
pub mod Intervals
pub mod Sweeps
