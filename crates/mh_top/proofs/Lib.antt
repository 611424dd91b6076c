pub mod Written
pub mod SourceLaws
pub mod WordLaws
pub mod RunLaws
pub mod ConvertLaws
pub mod SpeechLaws
pub mod SimLaws
