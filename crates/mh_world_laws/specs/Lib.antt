pub mod Sources
pub mod Fits
pub mod Laws
