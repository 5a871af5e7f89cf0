pub mod FaultTexts
pub mod Found
pub mod Line
pub mod Rules
pub mod Verbs
