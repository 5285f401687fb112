-- The definitions that contracts cite.
pub mod Applications
pub mod Memories
