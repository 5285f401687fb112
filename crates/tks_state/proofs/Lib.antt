pub mod ByWindow
mod Places
mod Called
pub mod Alone
pub mod Layouts
mod Unmoved
mod Marks
pub mod Children
mod Linked
pub mod Distinct
pub mod Restored
pub mod Possible
mod Looping
mod Standing
mod Tagging
pub mod FirstTable
mod Gone
