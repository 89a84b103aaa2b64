pub mod Best
pub mod Planned
pub mod Meets
pub mod Room
pub mod Buffers
pub mod Settles
pub mod Table
