mod Blocks
mod Captions
mod Marks
mod Toggles
mod Wholes
