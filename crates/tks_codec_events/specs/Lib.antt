-- How events, bindings and what waits are spelled.
pub mod Kind
pub mod Sequence
pub mod Keys
pub mod Event
pub mod Bindings
pub mod Virtuals
pub mod History
pub mod Queue
pub mod Timers
pub mod Held
