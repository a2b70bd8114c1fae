use Rattle.std.proofs.Common.{◌≡◌, ◌≢◌, ◌+◌, ℕ, get_or, ◌∙◌, arith, below_more}
use Rattle.std.specs.Prelude.{slice_set}
use Rattle.std.proofs.lemmas.List.{get_or-set_other, get_or-set_same, length-set}
use Rattle.dch_bits.specs.declared.bit.Bit.{Bit}
use Rattle.dch_bits.specs.declared.bit.Bit.TheVariants.{Zero}
use Rattle.dch_coding.proofs.Steps.{feeds_placed}
use Rattle.dch_coding.proofs.convolution.feed.Goals as goal

pub loop-i-preserved : goal.loop-i-preserved
loop-i-preserved c =
    let i : ℕ = c.loop-i.i in
    let bit : Bit = get_or c.args.block.now i Zero in
    let other : (j : ℕ) → j ≢ 8 + i → get_or (slice_set c.loop-i.inputs (8 + i) bit) j Zero ≡ get_or c.loop-i.inputs j Zero = λ j differ. get_or-set_other c.loop-i.inputs (8 + i) j bit Zero differ in
    record {
      long = simp length-set c.loop-i.invariant.long;
      before = λ j low. other j (λ same. omega arith) ∙ c.loop-i.invariant.before j low;
      written = below_more _ _
          (λ j below. other (8 + j) (λ same. omega arith) ∙ c.loop-i.invariant.written j below)
          (get_or-set_same c.loop-i.inputs (8 + i) bit Zero (omega arith));
      past = λ j high. other j (λ same. omega arith) ∙ c.loop-i.invariant.past j (omega arith);
    }

pub returns : goal.returns
returns c = feeds_placed c.loop-i.inputs c.args.block.now c.loop-i.invariant.before
    (λ j below. c.loop-i.invariant.written j (omega arith))
    (λ j high. c.loop-i.invariant.past j (omega arith))
