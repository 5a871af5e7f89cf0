pub mod CardSteps
pub mod Moves
pub mod Said
pub mod Steps
