-- What the program tells of a text.
-- Assumes nothing.
pub mod Told
