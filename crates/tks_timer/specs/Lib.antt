-- The definitions that contracts cite.
pub mod After
pub mod Firsts
pub mod Ids
pub mod Order
pub mod Waits
pub mod WellFormed
