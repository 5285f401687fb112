pub mod OfContent
pub mod OfLines
pub mod OfWindows
pub mod OfParts
pub mod OfWorlds
pub mod Formats
pub mod Packed
