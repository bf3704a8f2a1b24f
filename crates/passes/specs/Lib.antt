pub mod Parts
pub mod Steps
pub mod Pieces
