pub mod Reads
pub mod Told
