use Rattle.std.proofs.Common.{◌<◌, ℕ}
use Rattle.dch_combine.specs.Opened.{HoldsLongest}
use Rattle.dch_link.proofs.soft.longest_frame.Given as goal

abbrev pub invariant-loop-set : goal.invariant-loop-set
invariant-loop-set l = (s : ℕ) → s < l.set → HoldsLongest l.accepted.config s l.octets
