-- What the lines of a run in soft handover tell of the units that the two ends hand up.
use Rattle.std.specs.Prelude.{◌≡◌, ◌++◌, ℕ, List}
use Rattle.dch_types.specs.declared.channel.Dir.TheVariants.{Up, Down}
use Rattle.dch_node.specs.Lines.{Line}
use Rattle.dch_linkcmd.specs.LinkSoft.{SoftState}
use Rattle.dch_runlaw.specs.Directions.{lines_on}
use Rattle.dch_runlaw.specs.Lines.{lines_of}

-- of the lines of a run, those on units and PDUs of a bearer that went up are just what the network controller has
-- reported on it, and those on what went down are the terminal's
pub record IsTold (old new : SoftState) (lines : List Line) : Type 0 where
  pub up : (b : ℕ) → lines_of b new.rnc.lines ≡ lines_of b old.rnc.lines ++ lines_on Up b lines
  pub down : (b : ℕ) → lines_of b new.ue.lines ≡ lines_of b old.ue.lines ++ lines_on Down b lines
