use Rattle.std.proofs.Common.{◌≡◌, ◌<◌, ℕ, get_or}
use Rattle.dch_bits.specs.declared.bit.Trit.TheVariants.{Off}
use Rattle.dch_bits.specs.declared.bit.Vote.{Vote}
use Rattle.dch_frame.specs.Votes.{vote_of}
use Rattle.dch_frame.proofs.votes.count_same.Given as goal

abbrev pub invariant-loop-m : goal.invariant-loop-m
invariant-loop-m l = (k : ℕ) (v : Vote) → k < l.m → get_or l.out k v ≡ vote_of (get_or l.cells k Off)
