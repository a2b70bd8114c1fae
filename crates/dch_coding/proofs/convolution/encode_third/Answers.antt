use Rattle.std.proofs.Common.{◌+◌, ◌*◌, ℕ, List, ◌∙◌, sym, arith}
use Rattle.std.specs.Prelude.{slice_set}
use Rattle.std.proofs.lemmas.List.{length-set}
use Rattle.dch_bits.specs.declared.bit.Bit.{Bit}
use Rattle.dch_coding.specs.declared.rate.Rate.TheVariants.{Third}
use Rattle.dch_coding.specs.Conv.{coded_bit}
use Rattle.dch_coding.proofs.Codes.{coded_bit-at, encoded-by_places}
use Rattle.dch_coding.proofs.Steps.{place_more}
use Rattle.dch_coding.proofs.convolution.encode_third.Goals as goal

pub returns : goal.returns
returns c = λ block feeds sized.
    encoded-by_places Third block c.loop-k.out (omega (arith, sized)) (λ i within. c.loop-k.invariant block feeds i (omega (arith, sized)))

pub loop-k-preserved : goal.loop-k-preserved
loop-k-preserved c = λ block feeds j below.
    let k : ℕ = c.loop-k.k in
    let out : List Bit = c.loop-k.out in
    let first : List Bit = slice_set out (3 * k) c.coded_bit.result in
    let second : List Bit = slice_set first (3 * k + 1) c.coded_bit-in-loop-k.result in
    place_more (coded_bit Third block) second (3 * k + 2) c.coded_bit-in-loop-k-2.result (omega (arith, length-set {A = Bit}))
    (c.coded_bit-in-loop-k-2.ensures block feeds ∙ sym (coded_bit-at Third block k 2 (3 * k + 2) (omega arith) (omega arith)))
    (λ j below. place_more (coded_bit Third block) first (3 * k + 1) c.coded_bit-in-loop-k.result (omega (arith, length-set {A = Bit}))
    (c.coded_bit-in-loop-k.ensures block feeds ∙ sym (coded_bit-at Third block k 1 (3 * k + 1) (omega arith) (omega arith)))
    (place_more (coded_bit Third block) out (3 * k) c.coded_bit.result (omega arith)
    (c.coded_bit.ensures block feeds ∙ sym (coded_bit-at Third block k 0 (3 * k) (omega arith) (omega arith)))
    (c.loop-k.invariant block feeds))
    j (omega arith))
    j (omega arith)
