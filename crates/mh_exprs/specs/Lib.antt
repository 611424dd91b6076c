pub mod Calls
pub mod Constant
pub mod Expression
pub mod Leaves
pub mod Operations
pub mod Step
