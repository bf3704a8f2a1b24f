pub mod Pass
pub mod PassTurns
pub mod PassSteps
pub mod Moves
pub mod Xdwrite
pub mod Rebuild
pub mod Carry
