pub mod OfContents
pub mod OfOptions
pub mod OfPacking
pub mod OfWidgets
pub mod OfLines
pub mod OfPlaces
pub mod Sizes
mod ByNumber
