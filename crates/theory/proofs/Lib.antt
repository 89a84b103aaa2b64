pub mod congestion
pub mod engine
pub mod links
