use Rattle.std.proofs.Common.{◌≡◌, ◌<◌, ℕ}
use Rattle.dch_coding.specs.Ttis.{part}
use Rattle.dch_coding.specs.Segments.{filler_of}
use Rattle.dch_tti.specs.JoinedBits.{IsRead}
use Rattle.dch_tti.proofs.decoder.read_blocks.Given as goal

abbrev pub invariant-loop-r : goal.invariant-loop-r
invariant-loop-r l = (l.trellis ≡ l.fn.trellis) × ((q : ℕ) → q < l.r → IsRead l.coding (part q l.coded l.votes) (filler_of l.plan q) (part q l.plan.size l.blocks))
