pub mod Command
pub mod Headed
pub mod Flags
pub mod Length
pub mod Sent
pub mod Lossless
