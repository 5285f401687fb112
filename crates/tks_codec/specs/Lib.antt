-- How worlds are spelled.
pub mod Class
pub mod Content
pub mod Line
pub mod Windows
pub mod Counts
pub mod Happenings
pub mod Ends
pub mod World
