use Rattle.std.proofs.Common.{rules, ◌≡◌, ◌++◌, ◌∷◌, [], refl, get_or, arith, ◌∙◌, sym, ap₂, List}
use Rattle.std.proofs.lemmas.List.{take_more}
use Rattle.dch_bits.specs.declared.bit.Bit.{Bit}
use Rattle.dch_bits.specs.declared.bit.Bit.TheVariants.{Zero}
use Rattle.dch_coding.specs.Register.{lowest_bits}
use Rattle.dch_coding.proofs.Registers.{reverse-lowest_bits, reversed_at}
use Rattle.dch_coding.proofs.parity.is_reversed.Goals as goal

pub loop-i-init : goal.loop-i-init
unfolding lowest_bits
loop-i-init c = refl

pub loop-i-preserved : goal.loop-i-preserved
loop-i-preserved c =
    let same : get_or c.args.bits.now c.loop-i.i Zero ≡ c.bit_at.result = search rules in
    take_more c.args.bits.now c.loop-i.i Zero (omega arith)
    ∙ ap₂ (λ (bits : List Bit) (b : Bit). bits ++ b ∷ []) c.loop-i.invariant (same ∙ c.bit_at.ensures.bit) ∙ sym (reverse-lowest_bits c.loop-i.i c.args.number)

pub returns-then-ne : goal.returns-then-ne
returns-then-ne c = (
  λ no. cc,
  λ whole.
      let same : get_or c.args.bits.now c.loop-i.i Zero ≡ c.bit_at.result = reversed_at c.args.bits.now c.args.number c.loop-i.i (omega arith) whole ∙ sym c.bit_at.ensures.bit in
      absurd (search rules),
)
