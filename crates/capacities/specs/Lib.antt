pub mod Reads
pub mod Spread
pub mod Entries
pub mod Capacities
pub mod Told
pub mod Ran
