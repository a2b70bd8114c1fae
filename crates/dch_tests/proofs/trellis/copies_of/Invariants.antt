use Rattle.std.proofs.Common.{◌≡◌, ◌≤◌, ◌*◌, ◌^◌, take}
use Rattle.dch_trellis.specs.Nearest.{all_copies}
use Rattle.dch_tests.proofs.trellis.copies_of.Given as goal

abbrev pub invariant-loop-vote : goal.invariant-loop-vote
invariant-loop-vote l = record {
  summed : l.sum ≡ all_copies (take l.vote-index l.votes);
  small : l.sum ≤ l.vote-index * 2 ^ 33;
}
