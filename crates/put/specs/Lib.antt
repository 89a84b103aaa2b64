pub mod Wrote
pub mod Lists
