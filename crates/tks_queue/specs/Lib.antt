-- The definitions that contracts cite.
pub mod EventQueue
pub mod Index
pub mod Legal
