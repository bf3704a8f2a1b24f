pub mod Header
pub mod Frame
pub mod Places
pub mod Outside
pub mod Written
pub mod Kept
pub mod Stores
