pub mod Exact
pub mod Walked
