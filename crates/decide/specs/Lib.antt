pub mod Called
pub mod Stages
pub mod Joined
