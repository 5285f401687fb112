pub mod Cuts
pub mod Plain
pub mod Loops
pub mod Matching
pub mod Spelled
pub mod Told
pub mod Joined
pub mod Grown
