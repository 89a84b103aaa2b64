mod Lines
mod Keys
mod Going
