pub mod BodyForms
pub mod Counts
pub mod Deepest
pub mod Lines
pub mod Makers
pub mod Pairs
pub mod Rows
pub mod ViewForms
