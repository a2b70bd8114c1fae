use Rattle.std.proofs.Common.{◌≡◌, ◌<◌, ℕ, get_or}
use Rattle.dch_bits.specs.declared.bit.Bit.TheVariants.{Zero}
use Rattle.dch_bits.specs.declared.bit.Vote.{Vote}
use Rattle.dch_tti.specs.JoinedBits.{majority}
use Rattle.dch_tti.proofs.block.read_bits.Given as goal

abbrev pub invariant-loop-j : goal.invariant-loop-j
invariant-loop-j l = (k : ℕ) (v : Vote) → k < l.j → get_or l.out k Zero ≡ majority (get_or l.votes k v)
