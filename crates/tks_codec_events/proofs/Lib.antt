pub mod Sequencing
pub mod Eventful
pub mod Differing
pub mod Telling
pub mod Tables
pub mod Waiting
pub mod Holding
