-- The uplink Iub frames that the legs of a soft handover, its Node Bs, sent for a set of channels (TS 25.427 6.2).
use Rattle.std.specs.Prelude.{ℕ, [], Option, Some, None}
use Rattle.dch_accept.specs.Blocks.{Held}
use Rattle.dch_accept.specs.HeldSets.{HeldSet, held_at}

-- what a frame carries: the blocks of each channel of the set with their marks, and the quality estimate, of which less
-- is better
pub record LegFrame : Type 0 where
  pub held : HeldSet
  pub qe : ℕ

-- the blocks of channel i in the frame of a leg, and none where it has no frame
abbrev pub blocks_in : Option LegFrame → ℕ → Held
blocks_in None i = record { format = 0; size = 0; bits = []; good = []; room = 0 }
blocks_in (Some frame) i = held_at frame.held.blocks i
