pub mod Holding
pub mod Moves
pub mod Opened
pub mod Same
pub mod Standing
pub mod State
pub mod Steps
pub mod Values
