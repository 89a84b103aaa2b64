mod Stacks
mod Fields
mod Rooms
