pub mod Changing
pub mod Checks
pub mod Comparing
pub mod Courses
pub mod Events
pub mod Fitting
pub mod Link
pub mod Passing
pub mod Stages
pub mod LinkNodes
pub mod Values
pub mod Within
pub mod Errors
pub mod SoftEvents
pub mod Hearing
pub mod Legs
pub mod SoftPassing
pub mod Rooms
pub mod Same
pub mod Soft
pub mod SoftStages
pub mod SoftNodes
pub mod SoftValues
pub use Rattle.dch_rnc.specs.Standing as RncStanding
pub use Rattle.dch_rnc.specs.Values as RncValues
pub use Rattle.dch_nodeb.specs.Values as NodebValues
pub use Rattle.dch_ue.specs.Standing as UeStanding
pub use Rattle.dch_ue.specs.Values as UeValues
pub use Rattle.dch_damage.specs.Damage
pub use Rattle.dch_rnc.specs.State as RncState
pub use Rattle.dch_rnc.specs.Steps as RncSteps
pub use Rattle.dch_ue.specs.State as UeState
pub use Rattle.dch_ue.specs.Steps as UeSteps
pub use Rattle.dch_nodeb.specs.State as NodebState
pub use Rattle.dch_nodeb.specs.Steps as NodebSteps
pub use Rattle.dch_steptext.specs.Reports as SteptextReports
pub use Rattle.dch_layer2.specs.Bearings
