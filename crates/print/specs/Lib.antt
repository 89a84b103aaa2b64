pub mod Texts
pub mod Refusal
pub mod Handed
