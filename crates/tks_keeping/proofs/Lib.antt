-- the ground: lists, texts, tables
pub mod Lists
pub mod Texts
pub mod Tables
-- variables and scripts, over any host
pub mod Variables
pub mod Plain
pub mod Procedures
pub mod Scripts
-- one part of a world in the place of another
pub mod Parts
-- windows, with their widgets
pub mod Globals
pub mod Options
pub mod Caption
pub mod Entry
pub mod Listbox
pub mod Lines
pub mod Widgets
pub mod Windows
-- bindings, events, what waits
pub mod Names
pub mod Delivered
pub mod Bindings
pub mod Virtuals
pub mod Generating
pub mod Timers
pub mod Events
-- any command, any input
pub mod Commands
pub mod Inputs
pub mod Steps
