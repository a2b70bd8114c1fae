use Rattle.std.proofs.Common.{◌+◌, ◌*◌, ℕ, List, ◌∙◌, sym, arith}
use Rattle.std.specs.Prelude.{slice_set}
use Rattle.std.proofs.lemmas.List.{length-set}
use Rattle.dch_bits.specs.declared.bit.Bit.{Bit}
use Rattle.dch_coding.specs.declared.rate.Rate.TheVariants.{Half}
use Rattle.dch_coding.specs.Conv.{coded_bit}
use Rattle.dch_coding.proofs.Codes.{coded_bit-at, encoded-by_places}
use Rattle.dch_coding.proofs.Steps.{place_more}
use Rattle.dch_coding.proofs.convolution.encode_half.Goals as goal

pub returns : goal.returns
returns c = λ block feeds sized.
    encoded-by_places Half block c.loop-k.out (omega (arith, sized)) (λ i within. c.loop-k.invariant block feeds i (omega (arith, sized)))

pub loop-c-init : goal.loop-c-init
loop-c-init c = λ block feeds j below. absurd (omega arith)

pub loop-c-preserved : goal.loop-c-preserved
loop-c-preserved c = λ block feeds j below.
    c.half_steps.ensures block feeds (λ i low. c.loop-c.invariant block feeds i (omega arith)) j (omega arith)

pub loop-k-init : goal.loop-k-init
loop-k-init c = λ block feeds j below. c.loop-c.invariant block feeds j (omega arith)

pub loop-k-preserved : goal.loop-k-preserved
loop-k-preserved c = λ block feeds j below.
    let k : ℕ = c.loop-k.k in
    let out : List Bit = c.loop-k.out in
    let first : List Bit = slice_set out (2 * k) c.coded_bit.result in
    place_more (coded_bit Half block) first (2 * k + 1) c.coded_bit-in-loop-k.result (omega (arith, length-set {A = Bit}))
    (c.coded_bit-in-loop-k.ensures block feeds ∙ sym (coded_bit-at Half block k 1 (2 * k + 1) (omega arith) (omega arith)))
    (place_more (coded_bit Half block) out (2 * k) c.coded_bit.result (omega arith)
    (c.coded_bit.ensures block feeds ∙ sym (coded_bit-at Half block k 0 (2 * k) (omega arith) (omega arith)))
    (c.loop-k.invariant block feeds))
    j (omega arith)
