mod Changing
mod Painting
