-- An Iub frame that is refused, in a run of `nodeb`.
use Rattle.std.specs.Prelude.{◌≡◌, ℕ, List, false, Ok}
use Rattle.dch_types.specs.declared.channel.Dir.TheVariants.{Down}
use Rattle.dch_script.specs.ParsedLine.{iub}
use Rattle.dch_iub.specs.Answers.{IsCause}
use Rattle.dch_iub.specs.declared.error.IubError.{IubError}
use Rattle.dch_lines.specs.LineTexts.{HandlesLines, is_empty}
use Rattle.dch_nodeb.specs.State.{Event, State}
use Rattle.dch_lines.specs.Texts.{octets_of}
use Rattle.dch_nodecmd.specs.NodeBRules.{node_b_lines, node_b_rules}
use Rattle.dch_nodecmd.specs.NodeRules.{meaning_for}
use Rattle.dch_nodecmd.specs.Run.{Run}

-- a line brings an Iub frame of a set that is refused
pub record BringsRefused (run : Run State Event) (line : List ℕ) (set : ℕ) (error : IubError) : Type 0 where
  pub words : is_empty line ≡ false
  pub hex : List ℕ
  pub says : meaning_for node_b_rules run.node.planned.config line ≡ Ok (iub set hex)
  pub cause : IsCause run.node.planned.config Down set (octets_of hex) error

-- wherever lines lead, a line brings an Iub frame that is refused then
abbrev pub BringsRefusedAfter : Run State Event → List (List ℕ) → List ℕ → ℕ → IubError → Type 0
BringsRefusedAfter run before line set error = (mid : Run State Event) (text : List ℕ)
    → HandlesLines node_b_lines run before mid text → BringsRefused mid line set error
