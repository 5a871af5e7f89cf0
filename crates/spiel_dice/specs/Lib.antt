pub mod LiarsDice
pub mod LiarsDiceState
pub mod LiarsDicePlays
pub mod LiarsDiceLaws
