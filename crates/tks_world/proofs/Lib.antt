pub mod Answers
pub mod Counts
pub mod Joining
pub mod Names
pub mod Wider
pub mod Stepping
pub mod Words
pub mod Resting
pub mod Legal
mod Quiet
pub mod Updates
