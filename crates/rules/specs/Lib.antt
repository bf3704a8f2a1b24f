pub mod Rule
pub mod Reason
pub mod Must
