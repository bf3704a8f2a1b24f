pub mod Row
pub mod Counts
pub mod Length
pub mod Share
pub mod Change
pub mod Others
pub mod OldBytes
