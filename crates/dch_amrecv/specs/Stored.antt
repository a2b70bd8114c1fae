-- How a PDU is kept in a block: the number of its indicators, that of its octets, the indicators as they stand in the
-- PDU, and the octets.
use Rattle.std.specs.Prelude.{◌≡◌, ◌+◌, ◌<◌, ◌≤◌, ℕ, List, length, map, take, drop, None, slice_index, slice_index_or}
use Rattle.dch_rlcpdu.specs.Indicators.{AreIndicators, indicator_of}
use Rattle.dch_rlcpdu.specs.Parts.{Content}
use Rattle.dch_pool.specs.Blocks.{Blocks, octets_of, with_octets}

-- what the octets of a block hold
abbrev pub content_of : List ℕ → Content
content_of text = record {
  indicators = map indicator_of (take (slice_index text 0) (drop 2 text));
  octets = take (slice_index text 1) (drop (slice_index text 0) (drop 2 text));
}

-- they hold a PDU
pub record IsStored (text : List ℕ) : Type 0 where
  pub room : 2 + slice_index text 0 + slice_index text 1 ≤ length text
  pub small : slice_index text 0 + slice_index text 1 ≤ 124
  pub good : AreIndicators (slice_index text 1) (content_of text).indicators

-- a block that was spare holds this PDU, and the others are as they were
pub record Stores (old new : Blocks) (body : Content) (block : ℕ) : Type 0 where
  pub there : block < length old.contents
  pub was : slice_index_or old.contents block None ≡ None
  pub now : new ≡ with_octets old block (octets_of new block)
  pub stored : IsStored (octets_of new block)
  pub content : content_of (octets_of new block) ≡ body
