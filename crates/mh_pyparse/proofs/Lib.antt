pub mod Complete
pub mod CompleteBrackets
pub mod CompleteItems
pub mod CompleteSteps
mod Examples
pub mod First
pub mod Levels
pub mod Local
pub mod LocalStatements
mod Sentences
pub mod Tables
pub mod SoundRows
pub mod Sound
pub mod SoundSmall
pub mod SoundStatements
pub mod Advances
pub mod AdvancesStatements
pub mod CompleteStatementsFirst
pub mod CompleteStatementsSmall
pub mod CompleteStatements
pub mod Refuse
pub mod Names
pub mod Starts
pub mod Inside
pub mod Spellings
