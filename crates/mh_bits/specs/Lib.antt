pub mod Vector
pub mod Operators
pub mod View
