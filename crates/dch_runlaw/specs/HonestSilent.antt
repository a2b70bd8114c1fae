-- Lines of which none says that blocks of a channel were taken as good that were not given.
use Rattle.std.specs.Prelude.{ℕ, List, Contains}
use Rattle.dch_types.specs.declared.channel.Dir.TheVariants.{Up, Down}
use Rattle.dch_node.specs.Lines.{Differs, Line}

-- a line is not among these
abbrev pub Lacks : List Line → Line → Type 0
Lacks lines line = ¬ Contains lines line

-- none says so of an uplink channel, or of a downlink channel
pub record IsSilent (up down : ℕ) (lines : List Line) : Type 0 where
  pub up_silent : Lacks lines (Differs Up up)
  pub down_silent : Lacks lines (Differs Down down)
