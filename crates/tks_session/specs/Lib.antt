pub mod Terminals
pub mod Sessions
pub mod Crash
pub mod Refusing
pub mod Draining
