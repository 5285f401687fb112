pub mod Entry
pub mod Commands
pub mod Shown
pub mod Laws
