pub mod Shelf
pub mod Length
pub mod Bench
