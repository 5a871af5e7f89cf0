pub mod HiddenChoices
pub mod RepeatFaults
pub mod RepeatedRounds
pub mod RepeatedSteps
pub mod RepeatedUndone
