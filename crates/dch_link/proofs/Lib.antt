pub mod Arriving
pub mod Cfns
pub mod Changing
pub mod Compared
pub mod Coursing
pub mod Fits
pub mod Following
pub mod Nexts
pub mod OneNodes
pub mod OneReadings
pub mod OneText
pub mod Opened
pub mod Reporting
pub mod Sublists
mod SoftArriving
mod Given
mod Hit
mod Legs
mod SoftNexts
mod SoftOpened
mod Timing
pub use Rattle.dch_nodeb.proofs.Steady
pub use Rattle.dch_steptext.proofs.Reporting as SteptextReporting
