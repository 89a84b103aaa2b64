pub mod Subsets
pub mod Kept
pub mod Prune
pub mod Strip
