-- What the tests' own types mean.
pub mod Counter
pub mod Swap
