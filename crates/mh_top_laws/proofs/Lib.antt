pub mod Trees
pub mod Designs
pub mod Sources
pub mod Runs
