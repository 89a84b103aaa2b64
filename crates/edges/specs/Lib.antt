pub mod Lists
pub mod Entries
pub mod Reading
pub mod Steps
pub mod Served
pub mod Line
pub mod Pins
