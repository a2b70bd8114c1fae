pub mod NoTrace
pub mod NodeRules
pub mod Overlong
pub mod Reading
pub mod Rules
pub mod Run
pub mod RunLines
pub mod Handlers
pub mod NodeBLasting
pub mod NodeBLineEvents
pub mod NodeBNoTrace
pub mod NodeBRules
pub mod RncLasting
pub mod RncLineEvents
pub mod RncNoTrace
pub mod RncRules
pub mod UeLasting
pub mod UeLineEvents
pub mod UeRules
pub use Rattle.dch_rnc.specs.Standing as RncStanding
pub use Rattle.dch_rnc.specs.State as RncState
pub use Rattle.dch_rnc.specs.Steps as RncSteps
pub use Rattle.dch_rnc.specs.Values as RncValues
pub use Rattle.dch_ue.specs.State as UeState
pub use Rattle.dch_nodeb.specs.Standing as NodebStanding
pub use Rattle.dch_nodeb.specs.State as NodebState
pub use Rattle.dch_nodeb.specs.Steps as NodebSteps
pub use Rattle.dch_nodeb.specs.Values as NodebValues
pub use Rattle.dch_ue.specs.Values as UeValues
pub use Rattle.dch_ue.specs.Standing as UeStanding
