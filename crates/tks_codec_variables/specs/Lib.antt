-- How variables and procedures are spelled.
pub mod Table
pub mod Globals
pub mod Procedures
pub mod Variables
