pub mod Fronts
pub mod Joined
pub mod Placing
pub mod Cuts
pub mod Parts
