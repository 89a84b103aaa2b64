pub mod Computed
pub mod Mask
