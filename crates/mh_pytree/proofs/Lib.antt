pub mod Depths
pub mod NameLaws
pub mod LineLaws
mod Examples
