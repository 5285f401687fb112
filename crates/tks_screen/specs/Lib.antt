pub mod Screen
pub mod Panes
