pub mod Values
pub mod Growing
pub mod Restored
pub mod Given
