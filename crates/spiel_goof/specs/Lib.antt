pub mod Worth
pub mod Cards
pub mod Goofspiel
pub mod Turns
pub mod GoofspielPlays
pub mod Table
pub mod GoofspielState
pub mod GoofspielLaws
