pub mod Least
pub mod Chain
