pub mod Asked
pub mod Faults
pub mod Games
pub mod Given
pub mod Named
pub mod Params
pub mod Reads
pub mod Transforms
