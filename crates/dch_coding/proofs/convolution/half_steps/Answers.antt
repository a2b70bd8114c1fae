use Rattle.std.proofs.Common.{◌+◌, ◌*◌, ℕ, List, get_or, ◌∙◌, sym, arith}
use Rattle.std.specs.Prelude.{slice_set}
use Rattle.std.proofs.lemmas.List.{length-set}
use Rattle.dch_bits.specs.declared.bit.Bit.{Bit}
use Rattle.dch_bits.specs.declared.bit.Bit.TheVariants.{Zero}
use Rattle.dch_coding.specs.declared.rate.Rate.TheVariants.{Half}
use Rattle.dch_coding.specs.Conv.{coded_bit}
use Rattle.dch_coding.proofs.Codes.{coded_bit-at}
use Rattle.dch_coding.proofs.Steps.{place_more}
use Rattle.dch_coding.proofs.convolution.half_steps.Goals as goal

pub loop-j-preserved : goal.loop-j-preserved
loop-j-preserved c =
    let from : ℕ = c.args.from in
    let j : ℕ = c.loop-j.j in
    record {
      first_long = simp length-set c.loop-j.invariant.first_long;
      second_long = simp length-set c.loop-j.invariant.second_long;
      first = λ block feeds. place_more (λ i. coded_bit Half block (2 * (from + i))) c.loop-j.first j c.coded_bit.result (omega arith)
          (c.coded_bit.ensures block feeds ∙ sym (coded_bit-at Half block (from + j) 0 (2 * (from + j)) (omega arith) (omega arith)))
          (c.loop-j.invariant.first block feeds);
      second = λ block feeds. place_more (λ i. coded_bit Half block (2 * (from + i) + 1)) c.loop-j.second j c.coded_bit-in-loop-j.result (omega arith)
          (c.coded_bit-in-loop-j.ensures block feeds ∙ sym (coded_bit-at Half block (from + j) 1 (2 * (from + j) + 1) (omega arith) (omega arith)))
          (c.loop-j.invariant.second block feeds);
    }

pub loop-j-2-preserved : goal.loop-j-2-preserved
loop-j-2-preserved c = λ block feeds before i below.
    let j : ℕ = c.loop-j-2.j in
    let n : ℕ = 2 * (c.args.from + j) in
    let out : List Bit = c.loop-j-2.out in
    let one : List Bit = slice_set out n (get_or c.loop-j.first j Zero) in
    place_more (coded_bit Half block) one (n + 1) (get_or c.loop-j.second j Zero) (omega (arith, length-set {A = Bit}))
    (c.loop-j.invariant.second block feeds j (omega arith))
    (place_more (coded_bit Half block) out n (get_or c.loop-j.first j Zero) (omega arith)
    (c.loop-j.invariant.first block feeds j (omega arith))
    (c.loop-j-2.invariant block feeds before))
    i (omega arith)

pub returns : goal.returns
returns c = λ block feeds before i below. c.loop-j-2.invariant block feeds before i (omega arith)
