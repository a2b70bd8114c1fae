pub mod Arriving
pub mod Changed
pub mod New
pub mod Sizes
pub mod WaitingLemmas
