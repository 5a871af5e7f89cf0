pub mod CardSteps
pub mod Points
pub mod Numbers
pub mod Growth
pub mod Texts
pub mod Undoing
