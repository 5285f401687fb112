mod Rising
pub mod Least
mod Forming
pub mod Ordering
pub mod Finding
pub mod Firsts
