pub mod Effects
pub mod Fine
pub mod Valid
pub mod Beside
pub mod Retained
pub mod Sums
pub mod Calls
pub mod Step
