pub mod Choosing
pub mod Counting
pub mod Naming
pub mod Paying
pub mod Printing
