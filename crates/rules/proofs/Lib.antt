pub mod Rule
pub mod Reason
