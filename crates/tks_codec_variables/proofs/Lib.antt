pub mod OfTables
pub mod OfVariables
