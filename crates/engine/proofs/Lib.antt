mod Branches
mod Layers
mod Table
mod Best
