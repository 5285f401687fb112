pub mod Firsts
mod Joining
mod Keyed
