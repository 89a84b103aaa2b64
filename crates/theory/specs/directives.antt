pub mod Demand
pub mod Handout
