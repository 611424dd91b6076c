pub mod Results
pub mod Fit
