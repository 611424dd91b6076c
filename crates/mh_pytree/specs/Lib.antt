pub mod Depth
pub mod Lines
pub mod Names
