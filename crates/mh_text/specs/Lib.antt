pub mod Code
pub mod Characters
pub mod Rows
pub mod Decimal
pub mod Faults
