pub mod Boards
pub mod Lines
