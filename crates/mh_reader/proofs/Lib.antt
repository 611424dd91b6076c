pub mod Turns
pub mod Invert
pub mod Steps
pub mod Local
pub mod Advances
pub mod Yields
pub mod Refuse
mod Example
