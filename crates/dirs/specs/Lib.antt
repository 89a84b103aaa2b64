pub mod Letters
pub mod Told
