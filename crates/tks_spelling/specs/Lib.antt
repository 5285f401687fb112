pub mod Spelling
pub mod Reading
pub mod Writing
pub mod Lengths
pub mod Format
pub mod Header
pub mod Input
