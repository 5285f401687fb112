mod Opens
mod Pending
mod Reading
mod Rooms
pub mod Runs
mod Starts
pub mod Crashes
pub mod Formats
pub mod Lives
pub mod OfCalls
pub mod Drains
pub mod Checkpoints
