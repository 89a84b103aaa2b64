pub mod Keyed
pub mod Told
pub mod Reads
pub mod Opens
pub mod Values
pub mod Digits
