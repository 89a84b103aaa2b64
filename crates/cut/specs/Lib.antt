pub mod Joining
pub mod Bare
pub mod Stripping
pub mod Strips
pub mod Net
pub mod Dropped
pub mod Listing
pub mod Again
