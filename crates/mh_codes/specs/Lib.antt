pub mod Integers
pub mod Codes
pub mod Widths
pub mod Ranges
