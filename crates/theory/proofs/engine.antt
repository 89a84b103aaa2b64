pub mod Swept
pub mod Meeting
