pub mod Cuts
pub mod HeldChannels
pub mod Kinds
pub mod HeldNodes
