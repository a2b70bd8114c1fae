use Rattle.std.proofs.Common.{◌<◌, ℕ, length, arith, rules, sym}
use Rattle.std.proofs.Math.ListN.{length-set}
use Rattle.dch_frame.specs.declared.pattern.Steps.{Steps}
use Rattle.dch_frame.specs.declared.pattern.Kind.TheVariants.{Repeat}
use Rattle.dch_frame.proofs.Changes.{below-more}
use Rattle.dch_frame.proofs.Counters.{first_counter, first_fits, again_fits, repeating_first, repeating_inside, repeating_more, repeating_last}
use Rattle.dch_frame.proofs.KeptBits.{copies_below-none, kept_more}
use Rattle.dch_frame.proofs.matching.repeat_bits.Goals as goal

pub loop-bit-init : goal.loop-bit-init
loop-bit-init g c = record {
  counter = first_counter c.args.steps.now c.requires.steps;
  place = sym (copies_below-none (Repeat c.args.steps.now));
  kept = λ k d early. absurd (omega arith);
}

pub bounds-out-at : goal.bounds-out-at
bounds-out-at g c = omega (arith, first_fits c.args.steps.now c.loop-bit.bit-index (length c.args.bits.now) c.loop-bit.at (omega arith) c.loop-bit.invariant.place, c.requires.room)

pub offset_bounds-out-at : goal.offset_bounds-out-at
offset_bounds-out-at g c =
    let inside : c.loop-bit.at < length c.loop-bit.out = omega (arith, first_fits c.args.steps.now c.loop-bit.bit-index (length c.args.bits.now) c.loop-bit.at (omega arith) c.loop-bit.invariant.place, c.requires.room) in
    search rules

pub overflow_add-at : goal.overflow_add-at
overflow_add-at g c =
    let inside : c.loop-bit.at < length c.loop-bit.out = omega (arith, first_fits c.args.steps.now c.loop-bit.bit-index (length c.args.bits.now) c.loop-bit.at (omega arith) c.loop-bit.invariant.place, c.requires.room) in
    search rules

pub loop-counter-init : goal.loop-counter-init
loop-counter-init g c =
    let s : Steps = c.args.steps.now in
    let m : ℕ = c.loop-bit.bit-index in
    let at : ℕ = c.loop-bit.at in
    record {
      counter = repeating_first s m at c.loop-bit.counter c.requires.steps c.loop-bit.invariant.counter c.loop-bit.invariant.place;
      kept = kept_more (Repeat s) c.args.bits.now c.loop-bit.out m at c.bit-item.result c.loop-bit.invariant.kept (omega arith) (omega (arith, c.loop-bit.invariant.place)) (omega (arith, c.loop-bit.invariant.place, below-more (Repeat s) m)) (omega (arith, first_fits s m (length c.args.bits.now) at (omega arith) c.loop-bit.invariant.place, c.requires.room)) c.bit-item.is;
    }

pub bounds-out-at-in-loop-counter : goal.bounds-out-at-in-loop-counter
bounds-out-at-in-loop-counter g c = omega (arith, again_fits c.args.steps.now c.loop-bit.bit-index (length c.args.bits.now) c.loop-counter.at c.loop-counter.counter c.requires.steps c.loop-counter.invariant.counter c.loop-counter-test.true (omega arith), c.requires.room, simp length-set at c.loop-counter.auto.out)

pub offset_bounds-out-at-in-loop-counter : goal.offset_bounds-out-at-in-loop-counter
offset_bounds-out-at-in-loop-counter g c =
    let inside : c.loop-counter.at < length c.loop-counter.out = omega (arith, again_fits c.args.steps.now c.loop-bit.bit-index (length c.args.bits.now) c.loop-counter.at c.loop-counter.counter c.requires.steps c.loop-counter.invariant.counter c.loop-counter-test.true (omega arith), c.requires.room, simp length-set at c.loop-counter.auto.out) in
    search rules

pub overflow_add-at-in-loop-counter : goal.overflow_add-at-in-loop-counter
overflow_add-at-in-loop-counter g c =
    let inside : c.loop-counter.at < length c.loop-counter.out = omega (arith, again_fits c.args.steps.now c.loop-bit.bit-index (length c.args.bits.now) c.loop-counter.at c.loop-counter.counter c.requires.steps c.loop-counter.invariant.counter c.loop-counter-test.true (omega arith), c.requires.room, simp length-set at c.loop-counter.auto.out) in
    search rules

pub loop-counter-preserved : goal.loop-counter-preserved
loop-counter-preserved g c =
    let s : Steps = c.args.steps.now in
    let m : ℕ = c.loop-bit.bit-index in
    let at : ℕ = c.loop-counter.at in
    let room : at < length c.loop-counter.out = omega (arith, again_fits s m (length c.args.bits.now) at c.loop-counter.counter c.requires.steps c.loop-counter.invariant.counter c.loop-counter-test.true (omega arith), c.requires.room, simp length-set at c.loop-counter.auto.out) in
    record {
      counter = repeating_more s m at c.loop-counter.counter c.loop-counter.invariant.counter c.loop-counter-test.true;
      kept = kept_more (Repeat s) c.args.bits.now c.loop-counter.out m at c.bit-item.result c.loop-counter.invariant.kept (omega arith) (omega (arith, c.loop-counter.invariant.counter.some)) (repeating_inside s m at c.loop-counter.counter c.requires.steps c.loop-counter.invariant.counter c.loop-counter-test.true) room c.bit-item.is;
    }

pub loop-bit-preserved : goal.loop-bit-preserved
loop-bit-preserved g c =
    let last = repeating_last c.args.steps.now c.loop-bit.bit-index c.loop-counter.at c.loop-counter.counter c.requires.steps c.loop-counter.invariant.counter c.loop-counter-test.false in
    record { counter = last.0; place = last.1; kept = c.loop-counter.invariant.kept }
