pub mod Path
pub mod Windows
pub mod Links
pub mod WellFormed
pub mod View
pub mod Within
pub mod Meets
pub mod Laws
