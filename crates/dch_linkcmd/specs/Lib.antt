pub mod LineEvents
pub mod Overlong
pub mod Reading
pub mod Rules
pub mod Run
pub mod RunLines
pub mod Same
pub mod Handlers
pub mod Stepping
pub mod Taking
pub mod SoftLineEvents
pub mod SoftOverlong
pub mod SoftReading
pub mod SoftRules
pub mod SoftRun
pub mod SoftHandlers
pub mod SoftTaking
pub use Rattle.dch_link.specs.UeState
pub use Rattle.dch_link.specs.UeSteps
pub use Rattle.dch_link.specs.NodebState
pub use Rattle.dch_link.specs.NodebSteps
pub use Rattle.dch_link.specs.RncState
pub use Rattle.dch_link.specs.Courses
pub use Rattle.dch_link.specs.SoftEvents
pub use Rattle.dch_link.specs.Legs as LinkLegs
pub use Rattle.dch_link.specs.SoftPassing
pub use Rattle.dch_link.specs.Soft as LinkSoft
pub use Rattle.dch_link.specs.SoftStages
pub use Rattle.dch_link.specs.declared.soft_stage
pub use Rattle.dch_link.specs.Link as LinkLink
pub use Rattle.dch_link.specs.RncSteps
pub use Rattle.dch_link.specs.Within
pub use Rattle.dch_link.specs.Changing as LinkChanging
pub use Rattle.dch_link.specs.Events
pub use Rattle.dch_link.specs.Stages as LinkStages
pub use Rattle.dch_link.specs.Checks
pub use Rattle.dch_link.specs.Passing
pub use Rattle.dch_link.specs.declared.stage
