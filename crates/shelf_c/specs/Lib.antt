pub mod Blocks
pub mod Interface
