use Rattle.std.proofs.Common.{get_or, arith}
use Rattle.std.specs.Prelude.{bit_xor}
use Rattle.dch_damage.proofs.Changed.{changed_front}
use Rattle.dch_damage.proofs.iub.mask_octets.Goals as goal

pub returns : goal.returns
returns c =
    changed_front (λ k octet. bit_xor octet (get_or c.args.masks.now k 0)) 0 c.args.octets.now c.loop-i.out (omega arith) (λ k early. c.loop-i.invariant k (omega arith))
