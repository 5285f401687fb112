mod Putting
pub mod Filtering
