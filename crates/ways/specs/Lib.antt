pub mod Ends
pub mod Entry
