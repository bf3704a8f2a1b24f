pub mod Passed
pub mod Entries
pub mod Each
pub mod Granted
pub mod Why
pub mod Good
