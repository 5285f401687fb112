pub mod Values
pub mod Alignment
pub mod Table
pub mod Options
pub mod Cells
pub mod Calls
pub mod Numbers
pub mod Laws
