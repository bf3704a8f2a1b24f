pub mod Valid
pub mod Step
pub mod Calls
pub mod Interface
pub mod Blocks
pub mod Listing
