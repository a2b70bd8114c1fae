use Rattle.std.proofs.Common.{◌≡◌}
use Rattle.dch_amsend.specs.Ages.{ages_at}
use Rattle.dch_amsend.proofs.ages.oldest_from.Given as goal

abbrev pub invariant-loop-i : goal.invariant-loop-i
invariant-loop-i l = ages_at l.i l.now l.kept.items ≡ ages_at l.before l.now l.kept.items
