-- How many cells of a code block may be wrong.
use Rattle.std.specs.Prelude.{◌≡◌, ◌<◌, ◌-◌, ◌*◌, ◌/◌, ℕ, List}
use Rattle.dch_types.specs.declared.channel.Side.{Side}
use Rattle.dch_collision.specs.Clear.{Copies}
use Rattle.dch_collision.specs.Sequences.{IsLegal}
use Rattle.dch_collision.specs.SequenceCounts.{legal_count}
use Rattle.dch_margin.specs.Differ.{DifferInFormat, IsLeast, IsLeastInFormat, plan_in}
use Rattle.dch_margin.specs.Fewest.{IsSureDistance}
use Rattle.dch_margin.specs.declared.format.Finding.{Finding}
use Rattle.dch_margin.specs.declared.format.Finding.TheVariants.{Found, Many, Unsent as IsNotSent}
use Rattle.dch_margin.specs.declared.margin.Margin.{Margin}
use Rattle.dch_margin.specs.declared.margin.Margin.TheVariants.{AtLeast, Cells, Unsent}

-- fewer than half of the cells in which two blocks differ at least, under any legal sequence; none where there are two
-- that differ in no cell
pub record IsGuaranteed (side : Side) (sent : Copies) (i f cells : ℕ) : Type 0 where
  pub distance : ℕ
  pub least : IsLeast (DifferInFormat side sent i f) distance
  pub half : cells ≡ (distance - 1) / 2

-- under no legal sequence a code block is sent
abbrev pub IsUnsent : Side → ℕ → ℕ → Type 0
IsUnsent side i f = (sequence : List ℕ) → IsLegal side i f sequence → (plan_in side i f).blocks ≡ 0

-- there are so many legal sequences, too many to look at each code block under each of them
pub record AreMany (side : Side) (i f sequences : ℕ) : Type 0 where
  pub all : sequences ≡ legal_count side i f
  pub many : 2048 < sequences * (plan_in side i f).blocks

-- and two blocks differ in so many cells at least under each
pub record AreManyApart (side : Side) (sent : Copies) (i f distance sequences : ℕ) : Type 0 where
  pub many : AreMany side i f sequences
  pub sure : IsSureDistance side sent i f distance

-- fewer than half of these
pub record IsAtLeast (side : Side) (sent : Copies) (i f cells sequences : ℕ) : Type 0 where
  pub distance : ℕ
  pub apart : AreManyApart side sent i f distance sequences
  pub half : cells ≡ (distance - 1) / 2

-- what a margin tells of channel i in format f
abbrev pub IsMargin : Side → Copies → ℕ → ℕ → Margin → Type 0
IsMargin side sent i f (Cells cells) = IsGuaranteed side sent i f cells
IsMargin side sent i f Unsent = IsUnsent side i f
IsMargin side sent i f (AtLeast cells sequences) = IsAtLeast side sent i f cells sequences

-- what is found of it, where a sequence is left
abbrev pub IsFinding : Side → Copies → ℕ → ℕ → List ℕ → Finding → Type 0
IsFinding side sent i f sequence (Found least) = IsLeastInFormat side sent i f sequence least
IsFinding side sent i f sequence IsNotSent = IsUnsent side i f
IsFinding side sent i f sequence (Many distance sequences) = AreManyApart side sent i f distance sequences
