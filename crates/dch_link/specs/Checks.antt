-- Whether the blocks that were taken of a channel in a TTI are some of those that it was given.
use Rattle.std.specs.Prelude.{◌≡◌, ◌⊎◌, ◌+◌, ◌++◌, ◌==◌, ℕ, zero, suc, List, [], ◌∷◌, false, if◌then◌else◌, length, slice_index_or}
use Rattle.dch_bits.specs.declared.bit.Bit.{Bit}
use Rattle.dch_types.specs.declared.channel.Dir.{Dir}
use Rattle.dch_accept.specs.Blocks.{Held, block_at}
use Rattle.dch_node.specs.Lines.{Differs, Line}
use Rattle.dch_layer2.specs.Reading.{Bad, Nothing, Read, Reading}

-- the good blocks among so many from block k on
abbrev pub good_from : Held → ℕ → ℕ → List (List Bit)
good_from held k zero = []
good_from held k (suc count) = if slice_index_or held.good k false then block_at held k ∷ good_from held (k + 1) count
    else good_from held (k + 1) count

-- the good blocks that have bits
abbrev pub good_blocks : Held → List (List Bit)
good_blocks held = if held.size == 0 then [] else good_from held 0 (length held.good)

-- the good blocks with bits of what was read of a channel
abbrev pub good_in : Reading → List (List Bit)
good_in Nothing = []
good_in (Read held) = good_blocks held
good_in (Bad frame) = []

-- blocks that are a subsequence of others
abbrev pub IsSublist : List (List Bit) → List (List Bit) → Type 0
IsSublist [] ys = Unit {0}
IsSublist (x ∷ xs) [] = ⊥
IsSublist (x ∷ xs) (y ∷ ys) = ((x ≡ y) × IsSublist xs ys) ⊎ IsSublist (x ∷ xs) ys

-- the good blocks of a channel are some of those that it was given, in order; otherwise a line says so
abbrev pub IsChecked : Dir → ℕ → List (List Bit) → List (List Bit) → List Line → Type 0
IsChecked dir i taken given lines = (IsSublist taken given × (lines ≡ []))
    ⊎ ((¬ IsSublist taken given) × (lines ≡ Differs dir i ∷ []))

-- the lines on the first channels, in order
pub record ChecksNext (dir : Dir) (taken given : List (List Bit)) (i : ℕ) (Before : List Line → Type 0)
    (lines : List Line) : Type 0 where
  pub front : List Line
  pub own : List Line
  pub before : Before front
  pub is : IsChecked dir i taken given own
  pub all : lines ≡ front ++ own

abbrev pub AreChecked : Dir → (ℕ → List (List Bit)) → (ℕ → List (List Bit)) → ℕ → List Line → Type 0
AreChecked dir taken given zero lines = lines ≡ []
AreChecked dir taken given (suc i) lines = ChecksNext dir (taken i) (given i) i (AreChecked dir taken given i) lines
