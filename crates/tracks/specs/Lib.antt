pub mod Masks
pub mod Legal
pub mod Shut
pub mod Occupied
pub mod OccupiedAll
pub mod Turn
