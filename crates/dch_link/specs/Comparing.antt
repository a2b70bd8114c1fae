-- How the blocks of channels are compared.
use Rattle.std.specs.Prelude.{◌≡◌, ◌<◌, ◌≤◌, ◌⊎◌, ◌+◌, ℕ, List, [], Option, Some, None, true, false, length, map, slice_index_or}
use Rattle.std.specs.List.{range_with_len}
use Rattle.dch_bits.specs.declared.bit.Bit.{Bit}
use Rattle.dch_types.specs.declared.channel.Dir.{Dir}
use Rattle.dch_accept.specs.Blocks.{Held, block_at}
use Rattle.dch_node.specs.Lines.{Line}
use Rattle.dch_link.specs.Checks.{AreChecked, IsChecked, good_blocks}

-- the good blocks of a channel that may have been read
abbrev pub good_of : Option Held → List (List Bit)
good_of None = []
good_of (Some held) = good_blocks held

-- so many blocks from block k on
abbrev pub blocks_from : Held → ℕ → ℕ → List (List Bit)
blocks_from held k count = map (block_at held) (range_with_len k count)

-- the first good block from block i on, or the number of blocks where there is none
pub record IsNextGood (held : Held) (i next : ℕ) : Type 0 where
  pub from : i ≤ next
  pub within : next ≤ length held.good
  pub bad : (k : ℕ) → i ≤ k → k < next → slice_index_or held.good k false ≡ false
  pub good : next < length held.good → slice_index_or held.good next false ≡ true

-- the next block to be found after block k was looked at: the one after i where that is the same, and else still i
abbrev pub FindsNext : Held → ℕ → List Bit → ℕ → Type 0
FindsNext held i block next = ((i < length held.good) × (block_at held i ≡ block) × IsNextGood held (i + 1) next)
    ⊎ ((i < length held.good → ¬ (block_at held i ≡ block)) × (next ≡ i))

-- a channel is compared, and whoever is told is told of the line on it
pub record Compares (dir : Dir) (channel : ℕ) (taken given : List (List Bit)) (Says : List Line → Type 0) : Type 0 where
  pub lines : List Line
  pub checked : IsChecked dir channel taken given lines
  pub tells : Says lines

-- and so are the first channels
pub record ComparesAll (dir : Dir) (taken given : ℕ → List (List Bit)) (channels : ℕ)
    (Says : List Line → Type 0) : Type 0 where
  pub lines : List Line
  pub checked : AreChecked dir taken given channels lines
  pub tells : Says lines
