pub mod Block
pub mod Facts
