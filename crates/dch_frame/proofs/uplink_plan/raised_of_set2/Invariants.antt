use Rattle.std.proofs.Common.{◌≡◌, drop, filter}
use Rattle.dch_frame.specs.Uplinks.{in_set2, first_raised}
use Rattle.dch_frame.proofs.Sizes.{resumed}
use Rattle.dch_frame.proofs.uplink_plan.raised_of_set2.Given as goal

abbrev pub invariant-loop-size : goal.invariant-loop-size
invariant-loop-size l = resumed l.held (filter (in_set2 l.demand) (drop l.size-index l.sizes)) ≡ first_raised (filter (in_set2 l.demand) l.sizes)
