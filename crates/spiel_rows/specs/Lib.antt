pub mod Comparing
pub mod Runs
