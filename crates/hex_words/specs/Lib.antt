pub mod Words
pub mod Digits
pub mod Unhex
pub mod Exact
