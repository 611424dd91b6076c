pub mod RowLaws
pub mod SpellingLaws
