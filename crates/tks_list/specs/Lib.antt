pub mod ListText
pub mod Reading
pub mod Cuts
pub mod Gives
pub mod Quoting
pub mod Growing
pub mod Keeping
