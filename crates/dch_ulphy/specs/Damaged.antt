-- A TTI whose radio frames are kept in the combinations in which they were written, with few cells changed.
use Rattle.std.specs.Prelude.{ℕ, List, slice_index}
use Rattle.dch_bits.specs.declared.bit.Bit.{Bit}
use Rattle.dch_types.specs.Parts.{channel_at}
use Rattle.dch_inter.specs.Places.{frame_of, place_of}
use Rattle.dch_frame.specs.Patterns.{copies, copies_below}
use Rattle.dch_collision.specs.Copies.{padded_in, uplink_copies}
use Rattle.dch_collision.specs.Plans.{plan_at}
use Rattle.dch_accept.specs.Plans.{Planned}
use Rattle.dch_tti.specs.Damaged.{AreFewChanged, AreSameCombinations, cell_at, changed_among}
use Rattle.dch_tti.specs.RxFrames.{RxFrames, frame_at}
use Rattle.dch_ulphy.specs.Read.{channel_cells, pattern_in}
use Rattle.dch_ulphy.specs.Sent.{WasSent}

-- the changes among the cells of coded bit j of a TTI of so many bits, whose radio frames are sent in a sequence of
-- combinations
abbrev pub tti_changes : Planned → ℕ → List ℕ → RxFrames → RxFrames → ℕ → ℕ → ℕ
tti_changes planned i sequence sent received len j =
    let side = planned.config.uplink.side in
    let n = frame_of (channel_at side i).frames len j in
    let c = slice_index sequence n in
    let m = place_of (channel_at side i).frames len j in
    let cells = channel_cells (plan_at planned.uplink c) i in
    let kind = (pattern_in planned i n c).kind in
    changed_among (cell_at (cells (frame_at side sent i n).cells)) (cell_at (cells (frame_at side received i n).cells))
    (copies_below kind m) (copies kind m)

-- blocks were sent, and the radio frames of their TTI are kept in their combinations, with few cells changed
pub record WasDamaged (planned : Planned) (reader : RxFrames) (i f : ℕ) (blocks : List Bit) : Type 0 where
  pub sent : RxFrames
  pub was : WasSent planned sent i f blocks
  pub combinations : AreSameCombinations planned.config.uplink.side i sent reader
  pub few : AreFewChanged planned.config.uplink.side i f (uplink_copies planned.config.uplink i f was.sequence)
      (tti_changes planned i was.sequence sent reader (padded_in planned.config.uplink.side i f))
