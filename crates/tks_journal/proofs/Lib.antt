mod Appends
mod Choices
mod Closes
mod Faces
mod Fronts
mod Gates
mod Heads
mod Lists
mod Openings
mod Passing
pub mod Phases
mod Stages
mod Starts
mod Told
mod Vacancies
