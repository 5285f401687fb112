pub mod Wider
pub mod Walk
