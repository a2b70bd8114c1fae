pub mod Run
pub mod Sizes
pub mod Generators
pub mod Units
pub mod Channels
pub mod Combinations
pub mod Bearers
pub mod Configuration
pub mod Refused
pub mod GenRuns
pub mod Counts
pub mod Counting
pub mod Summary
pub use Rattle.dch_link.specs.SoftValues
pub use Rattle.dch_link.specs.SoftEvents
pub use Rattle.dch_link.specs.Legs as LinkLegs
pub use Rattle.dch_link.specs.SoftPassing
pub use Rattle.dch_link.specs.Soft as LinkSoft
pub use Rattle.dch_link.specs.SoftStages
pub use Rattle.dch_link.specs.declared.soft_stage
pub use Rattle.dch_link.specs.LinkNodes
pub use Rattle.dch_link.specs.SoftNodes
pub use Rattle.dch_link.specs.Link as LinkLink
