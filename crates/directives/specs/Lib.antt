pub mod Counts
pub mod Marked
pub mod Counting
pub mod Asked
