pub mod Cases
pub mod Completion
pub mod Games
pub mod Judgements
pub mod Refusals
