use Rattle.std.proofs.Common.{◌≡◌, ◌<◌, ℕ, get_or}
use Rattle.dch_bits.specs.declared.bit.Bit.TheVariants.{Zero}
use Rattle.dch_damage.specs.Turns.{bit_after}
use Rattle.dch_damage.specs.declared.turned.Turned.TheVariants.{Not}
use Rattle.dch_damage.proofs.turned.turn_bits.Given as goal

abbrev pub invariant-loop-i : goal.invariant-loop-i
invariant-loop-i l = (k : ℕ) → k < l.i → get_or l.out k Zero ≡ bit_after (get_or l.table k Not) (get_or l.bits k Zero)
