pub mod Kept
pub mod Steps
pub mod Chosen
pub mod Turn
