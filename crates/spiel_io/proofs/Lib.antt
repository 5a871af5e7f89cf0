pub mod Memory
pub mod Plan
pub mod Reached
pub mod Taken
pub mod Fetched
