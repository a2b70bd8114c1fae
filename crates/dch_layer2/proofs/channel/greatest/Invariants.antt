use Rattle.std.proofs.Common.{◌<◌, ◌≤◌, ℕ, get_or}
use Rattle.dch_layer2.proofs.channel.greatest.Given as goal

abbrev pub invariant-loop-size : goal.invariant-loop-size
invariant-loop-size l = (k d : ℕ) → k < l.size-index → get_or l.sizes k d ≤ l.most
