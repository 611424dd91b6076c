pub mod Design
pub mod Gate
pub mod Names
pub mod Same
pub mod Value
