use Rattle.std.proofs.Common.{◌≡◌, ◌<◌, ℕ, Option, None}
use Rattle.dch_node.specs.Values.{Radio}
use Rattle.dch_link.specs.Hearing.{Arrive}
use Rattle.dch_link.proofs.hearing.lowest_radio.Given as goal

abbrev pub invariant-loop-k : goal.invariant-loop-k
invariant-loop-k l = (arrives : ℕ → Option Radio) → Arrive arrives l.legs → (j : ℕ) → j < l.k → arrives j ≡ None
