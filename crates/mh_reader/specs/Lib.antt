pub mod Reader
pub mod Lexeme
pub mod Locality
pub mod Refusals
