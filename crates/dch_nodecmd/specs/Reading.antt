-- What a node reads of a line.
use Rattle.std.specs.Prelude.{◌≡◌, ℕ, List, Option, Some, None, map}
use Rattle.dch_bits.specs.Text.{bit_of_letter}
use Rattle.dch_types.specs.declared.config.Config.{Config}
use Rattle.dch_accept.specs.Plans.{Planned}
use Rattle.dch_script.specs.ParsedLine.{ParsedLine, change}
use Rattle.dch_node.specs.Values.{Radio}
use Rattle.dch_lines.specs.Texts.{cells_of}
use Rattle.dch_nodecmd.specs.NodeRules.{NodeRules}

-- the radio frame whose TFCI bits and cells have these texts
abbrev pub radio_of : List ℕ → List ℕ → Radio
radio_of tfci cells = record { tfci = map bit_of_letter tfci; cells = cells_of cells }

-- what a line says is this event, which stands for so many radio frames of 10 ms; it is none where the line asks for a
-- change
abbrev pub Reads : {S E X : Type 0} → NodeRules S E → (X → E) → Config → ParsedLine → Option (X × ℕ) → Type 0
Reads rules happening config parsed (Some read) = (rules.event_of config parsed ≡ Some (happening read.0))
    × (read.1 ≡ rules.frames (happening read.0))
Reads rules happening config parsed None = parsed ≡ change

-- a node that is open for a configuration is ready for an event, before and after which that is active, and which
-- leaves
-- what it holds for a second one
pub record IsPlain {N : Type 0} (IsOpened IsReady IsActive : N → Type 0) (Keeps : N → N → Type 0)
    (HasNext : Planned → N → Type 0) : Type 0 where
  pub ready : (node : N) → IsOpened node → IsReady node
  pub active : (node : N) → IsActive node
  pub keeps : (old new : N) → Keeps old new → (second : Planned) → HasNext second old → HasNext second new
