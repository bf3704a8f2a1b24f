pub mod Valid
pub mod Shelf
pub mod Keeps
pub mod Bench
