mod Places
mod Among
mod Staying
mod Round
mod Rising
pub mod Whole
pub mod Called
pub mod Enclosing
