pub mod Words
pub mod ResultLaws
pub mod Shifts
pub mod Ends
pub mod FitLaws
pub mod BoundsLaws
