pub mod Each
pub mod Errors
pub mod Packs
pub mod Pairs
pub mod Results
pub mod Wider
pub mod Scripts
pub mod Tags
pub mod EventLaws
pub mod Generating
pub mod Sorting
pub mod Choices
pub mod Digits
pub mod Framing
pub mod Legal
pub mod Destroys
mod Alone
