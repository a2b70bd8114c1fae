use Rattle.std.proofs.Common.{◌≡◌, ◌≤◌, take, sum_by}
use Rattle.dch_trellis.specs.Nearest.{all_copies}
use Rattle.dch_trellis.specs.Undamaged.{fewest}
use Rattle.dch_trellis.proofs.undamaged.fewest_of.Given as goal

abbrev pub invariant-loop-vote : goal.invariant-loop-vote
invariant-loop-vote l = record {
  counted : l.sum ≡ sum_by fewest (take l.vote-index l.votes);
  few : l.sum ≤ all_copies (take l.vote-index l.votes);
}
