pub mod Listbox
pub mod Bounds
pub mod Commands
pub mod Shown
pub mod View
pub mod Laws
