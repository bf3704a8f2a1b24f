pub mod Licensed
pub mod Opened
