use Rattle.std.proofs.Common.{◌-◌, ◌<◌, ℕ, length, get_or, arith, rules, ap, sym, ◌∙◌}
use Rattle.dch_frame.specs.declared.pattern.Steps.{Steps}
use Rattle.dch_frame.specs.declared.pattern.Kind.TheVariants.{Puncture}
use Rattle.dch_frame.proofs.Changes.{below-more}
use Rattle.dch_frame.proofs.Counters.{first_counter, removed, kept, kept_fits}
use Rattle.dch_frame.proofs.KeptBits.{copies_below-none, kept_more}
use Rattle.dch_frame.proofs.matching.puncture_bits.Goals as goal
use Rattle.dch_frame.proofs.matching.puncture_bits.Goals.{then-counter-steps, else-counter-steps}

pub loop-bit-init : goal.loop-bit-init
loop-bit-init g c = record {
  counter = first_counter c.args.steps.now c.requires.steps;
  place = sym (copies_below-none (Puncture c.args.steps.now));
  kept = λ k d early. absurd (omega arith);
}

pub bounds-out-at : goal.bounds-out-at
bounds-out-at g c = omega (arith, kept_fits c.args.steps.now c.loop-bit.bit-index (length c.args.bits.now) c.loop-bit.at c.loop-bit.counter c.requires.steps c.loop-bit.invariant.counter (omega arith) (omega arith) c.loop-bit.invariant.place, c.requires.room)

pub offset_bounds-out-at : goal.offset_bounds-out-at
offset_bounds-out-at g c =
    let inside : c.loop-bit.at < length c.loop-bit.out = omega (arith, kept_fits c.args.steps.now c.loop-bit.bit-index (length c.args.bits.now) c.loop-bit.at c.loop-bit.counter c.requires.steps c.loop-bit.invariant.counter (omega arith) (omega arith) c.loop-bit.invariant.place, c.requires.room) in
    search rules

pub overflow_add-at : goal.overflow_add-at
overflow_add-at g c =
    let inside : c.loop-bit.at < length c.loop-bit.out = omega (arith, kept_fits c.args.steps.now c.loop-bit.bit-index (length c.args.bits.now) c.loop-bit.at c.loop-bit.counter c.requires.steps c.loop-bit.invariant.counter (omega arith) (omega arith) c.loop-bit.invariant.place, c.requires.room) in
    search rules

pub loop-bit-preserved : goal.loop-bit-preserved
loop-bit-preserved g c =
    let s : Steps = c.args.steps.now in
    let m : ℕ = c.loop-bit.bit-index in
    let at : ℕ = c.loop-bit.at in
    elim c.if-counter-steps.branch [
      | then-counter-steps w ↦
          let gone = removed s m c.loop-bit.counter c.requires.steps c.requires.once c.loop-bit.invariant.counter w.if-counter-steps.true in
          record {
            counter = ap (λ n. n - s.e_minus) w.counter-is ∙ gone.0;
            place = omega (arith, w.at-is, c.loop-bit.invariant.place, gone.1, below-more (Puncture s) m);
            kept = λ k d early. ap (λ out. get_or out k d) w.out-is ∙ c.loop-bit.invariant.kept k d (omega (arith, w.at-is, early));
          }
      | else-counter-steps w ↦
          let one = kept s m c.loop-bit.counter c.requires.steps c.loop-bit.invariant.counter w.if-counter-steps.false in
          let room : at < length c.loop-bit.out = omega (arith, kept_fits s m (length c.args.bits.now) at c.loop-bit.counter c.requires.steps c.loop-bit.invariant.counter w.if-counter-steps.false (omega arith) c.loop-bit.invariant.place, c.requires.room) in
          record {
            counter = ap (λ n. n - s.e_minus) w.counter-is ∙ one.0;
            place = omega (arith, w.at-is, c.loop-bit.invariant.place, one.1, below-more (Puncture s) m);
            kept = λ k d early.
                ap (λ out. get_or out k d) w.out-is
                ∙ kept_more (Puncture s) c.args.bits.now c.loop-bit.out m at c.bit-item.result c.loop-bit.invariant.kept (omega arith) (omega (arith, c.loop-bit.invariant.place)) (omega (arith, c.loop-bit.invariant.place, one.1, below-more (Puncture s) m)) room c.bit-item.is
                k d (omega (arith, w.at-is, early));
          }
    ]
