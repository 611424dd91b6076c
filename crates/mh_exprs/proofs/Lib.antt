pub mod ConstantForms
pub mod Forms
pub mod Integers
pub mod Rows
pub mod Deep
