pub mod Body
pub mod Machine
pub mod Fits
pub mod Stands
pub mod Flat
pub mod Extents
pub mod Parts
