pub mod Finding
pub mod Following
pub mod Nested
pub mod Reading
pub mod Tables
