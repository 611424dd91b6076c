pub mod Words
pub mod Flow
