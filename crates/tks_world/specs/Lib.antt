-- The definitions that contracts cite.
pub mod Hosting
pub mod Hosts
pub mod Stepped
pub mod Scripts
pub mod Gestures
pub mod Keys
pub mod Buttons
pub mod Things
pub mod Telling
pub mod Turns
pub mod Step
pub mod Run
pub mod Meets
pub mod Laws
pub mod OneWord
