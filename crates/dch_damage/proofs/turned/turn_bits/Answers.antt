use Rattle.std.proofs.Common.{get_or, arith}
use Rattle.dch_bits.specs.declared.bit.Bit.TheVariants.{Zero}
use Rattle.dch_damage.specs.Turns.{bit_after}
use Rattle.dch_damage.specs.declared.turned.Turned.TheVariants.{Not}
use Rattle.dch_damage.proofs.Changed.{changed_front}
use Rattle.dch_damage.proofs.turned.turn_bits.Goals as goal

pub returns : goal.returns
returns c =
    changed_front (λ place. bit_after (get_or c.args.table.now place Not)) Zero c.args.bits.now c.loop-i.out (omega arith) (λ k early. c.loop-i.invariant k (omega arith))
