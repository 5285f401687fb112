-- The definitions that contracts cite.
pub mod Names
pub mod Tree
pub mod Falls
pub mod Lending
pub mod Maps
pub mod Lists
pub mod Lines
pub mod Parts
pub mod Rows
pub mod Going
