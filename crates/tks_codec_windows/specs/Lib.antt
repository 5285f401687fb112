-- How what is kept of windows is spelled.
pub mod Bindtags
pub mod Contents
pub mod Options
pub mod Packing
pub mod Entry
pub mod Listbox
pub mod Lines
pub mod Places
