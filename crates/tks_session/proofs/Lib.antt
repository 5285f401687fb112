pub mod Leads
pub mod Surface
pub mod Wider
pub mod Formats
mod Names
mod Stored
pub mod Steps
pub mod Lengths
pub mod AnyCalls
