mod Spelling
mod Parts
mod Going
mod GoingPins
