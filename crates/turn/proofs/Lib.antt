mod Masks
mod Engine
mod Answer
mod Net
mod Reading
mod Choosing
mod Writing
