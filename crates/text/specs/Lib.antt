pub mod Number
pub mod Entries
pub mod Refusals
