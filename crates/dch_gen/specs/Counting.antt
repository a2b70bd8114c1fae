-- Counts that stand for lines.
use Rattle.std.specs.Prelude.{◌≡◌, ◌<◌, ◌+◌, ◌^◌, ℕ, List, [], ◌∷◌, Bool, true, length, count_by, slice_index, if◌then◌else◌}
use Rattle.dch_types.specs.declared.channel.Dir.{Dir}
use Rattle.dch_types.specs.declared.channel.Dir.TheVariants.{Up, Down}
use Rattle.dch_node.specs.Lines.{Line}
use Rattle.dch_script.specs.LineText.{text_of}
use Rattle.dch_gen.specs.Counts.{cells_of, cells_sent, is_got, is_one, is_took, ones_sent, units_handed_up, units_taken}
use Rattle.dch_gen.specs.declared.counts.Counts.{Counts}
use Rattle.dch_gen.specs.declared.counts.DirCounts.{DirCounts}

-- the counts of a direction are those of lines
pub record IsCountOf (dir : Dir) (lines : List Line) (counts : DirCounts) : Type 0 where
  pub took : (b : ℕ) → b < 6 → slice_index counts.took b ≡ units_taken dir b lines
  pub got : (b : ℕ) → b < 6 → slice_index counts.got b ≡ units_handed_up dir b lines
  pub cells : counts.cells ≡ cells_sent dir lines
  pub ones : counts.ones ≡ ones_sent dir lines

-- those of both directions
pub record AreCountsOf (lines : List Line) (counts : Counts) : Type 0 where
  pub up : IsCountOf Up lines counts.up
  pub down : IsCountOf Down lines counts.down

-- each count may grow by so much
pub record HasDirRoom (counts : DirCounts) (more : ℕ) : Type 0 where
  pub took : (b : ℕ) → b < 6 → slice_index counts.took b + more < 2 ^ 64
  pub got : (b : ℕ) → b < 6 → slice_index counts.got b + more < 2 ^ 64
  pub cells : counts.cells + more < 2 ^ 64
  pub ones : counts.ones + more < 2 ^ 64

pub record HasRoom (counts : Counts) (more : ℕ) : Type 0 where
  pub up : HasDirRoom counts.up more
  pub down : HasDirRoom counts.down more

abbrev pub one_if : Bool → ℕ
one_if test = if test then 1 else 0

-- one more line is counted
pub record CountsLine (dir : Dir) (line : Line) (old new : DirCounts) : Type 0 where
  pub took : (b : ℕ) → b < 6 → slice_index new.took b ≡ slice_index old.took b + one_if (is_took dir b line)
  pub got : (b : ℕ) → b < 6 → slice_index new.got b ≡ slice_index old.got b + one_if (is_got dir b line)
  pub cells : new.cells ≡ old.cells + length (cells_of dir line)
  pub ones : new.ones ≡ old.ones + count_by is_one (cells_of dir line)

-- the same in both directions
pub record CountsBoth (line : Line) (old new : Counts) : Type 0 where
  pub exact : old.is_exact ≡ true
  pub up : CountsLine Up line old.up new.up
  pub down : CountsLine Down line old.down new.down

-- a line that is told: counts that are exact then are so by this line and all before it, and they are where each of
-- them may grow by as much as the line has bytes
pub record ShowsCounts (old : Counts) (line : Line) (new : Counts) : Type 0 where
  pub counts : new.is_exact ≡ true → CountsBoth line old new
  pub exact : old.is_exact ≡ true → HasRoom old (length (text_of (line ∷ []))) → new.is_exact ≡ true
