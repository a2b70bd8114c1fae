-- The parts of a combiner as contracts see them.
use Rattle.std.specs.Prelude.{ℕ, List, [], Option, Some, None, slice_index_or}
use Rattle.dch_accept.specs.HeldSets.{HeldSet}
use Rattle.dch_combine.specs.declared.leg.LegBuffer.{LegBuffer}
use Rattle.dch_combine.specs.Legs.{LegFrame}

-- the receive buffer of leg k
abbrev pub leg_at : List LegBuffer → ℕ → LegBuffer
leg_at legs k = slice_index_or legs k (record { qe = None; blocks = record { set = 0; idle = []; blocks = [] } })

-- the receive buffers of the legs for a set, and room for the blocks of one more frame
pub record SetCombiner : Type 0 where
  pub legs : List LegBuffer
  pub spare : HeldSet

-- those of set s
abbrev pub set_at : List SetCombiner → ℕ → SetCombiner
set_at sets s = slice_index_or sets s (record { legs = []; spare = record { set = 0; idle = []; blocks = [] } })

-- how many legs there are, what is kept for each set, and room for the bits of a TTI
pub record Combiner : Type 0 where
  pub legs : ℕ
  pub sets : List SetCombiner
  pub room : ℕ

-- the frame in a receive buffer, if one was taken
abbrev pub frame_if : Option ℕ → HeldSet → Option LegFrame
frame_if None held = None
frame_if (Some qe) held = Some (record { held = held; qe = qe })

abbrev pub frame_of : LegBuffer → Option LegFrame
frame_of buffer = frame_if buffer.qe buffer.blocks

-- the frames of the legs for a set
abbrev pub frames_in : List LegBuffer → ℕ → Option LegFrame
frames_in legs k = frame_of (leg_at legs k)

-- the frame of leg k that was taken for set s, if one was taken since the set was given the last time
abbrev pub frames_of : Combiner → ℕ → ℕ → Option LegFrame
frames_of combiner s k = frames_in (set_at combiner.sets s).legs k
