use Rattle.std.proofs.Common.{◌++◌, ◌∷◌, [], refl, arith, ◌∙◌, sym, ap₂, List}
use Rattle.std.proofs.lemmas.List.{take_more_set}
use Rattle.dch_bits.specs.declared.bit.Bit.{Bit}
use Rattle.dch_coding.specs.Register.{lowest_bits}
use Rattle.dch_coding.proofs.Registers.{reverse-lowest_bits}
use Rattle.dch_coding.proofs.parity.write_reversed.Goals as goal

pub loop-i-init : goal.loop-i-init
unfolding lowest_bits
loop-i-init c = refl

pub loop-i-preserved : goal.loop-i-preserved
loop-i-preserved c =
    take_more_set c.loop-i.out c.loop-i.i c.bit_at.result (omega arith)
    ∙ ap₂ (λ (bits : List Bit) (b : Bit). bits ++ b ∷ []) c.loop-i.invariant c.bit_at.ensures.bit ∙ sym (reverse-lowest_bits c.loop-i.i c.args.number)
