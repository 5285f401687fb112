mod Ranges
mod Tearing
mod Written
