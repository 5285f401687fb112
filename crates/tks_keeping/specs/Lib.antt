-- The definitions that contracts and proofs cite.
pub mod Fitting
pub mod Keeping
