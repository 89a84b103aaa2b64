mod Places
mod Keys
pub mod Ranges
