use Rattle.std.proofs.Common.{◌≡◌, ◌-◌, ◌<◌, ℕ, List, length, arith, rules, ap, sym, ◌∙◌}
use Rattle.dch_bits.specs.declared.bit.Trit.{Trit}
use Rattle.dch_frame.specs.declared.pattern.Steps.{Steps}
use Rattle.dch_frame.specs.declared.pattern.Kind.TheVariants.{Repeat}
use Rattle.dch_frame.specs.Patterns.{copies, copies_below}
use Rattle.dch_frame.proofs.Changes.{below-more}
use Rattle.dch_frame.specs.Votes.{votes_among}
use Rattle.dch_frame.proofs.Counters.{first_counter, first_fits, again_fits, repeating_first, repeating_more, repeating_last}
use Rattle.dch_frame.proofs.Counts.{counted_more, among_first, among_next, votes_among_are}
use Rattle.dch_frame.proofs.KeptBits.{copies_below-none}
use Rattle.dch_frame.proofs.votes.count_repeated.Goals as goal

pub loop-m-init : goal.loop-m-init
loop-m-init c = record {
  counter = first_counter c.args.steps.now c.requires.steps;
  place = sym (copies_below-none (Repeat c.args.steps.now));
  counted = λ j v early. absurd (omega arith);
}

pub bounds-cells-at : goal.bounds-cells-at
bounds-cells-at c = omega (arith, first_fits c.args.steps.now c.loop-m.m (length c.args.out.now) c.loop-m.at (omega arith) c.loop-m.invariant.place, c.requires.cells)

pub overflow_add-at : goal.overflow_add-at
overflow_add-at c =
    let inside : c.loop-m.at < length c.args.cells.now = omega (arith, first_fits c.args.steps.now c.loop-m.m (length c.args.out.now) c.loop-m.at (omega arith) c.loop-m.invariant.place, c.requires.cells) in
    search rules

pub loop-counter-init : goal.loop-counter-init
loop-counter-init c =
    let inside : c.loop-m.at < length c.args.cells.now = omega (arith, first_fits c.args.steps.now c.loop-m.m (length c.args.out.now) c.loop-m.at (omega arith) c.loop-m.invariant.place, c.requires.cells) in
    record {
      counter = repeating_first c.args.steps.now c.loop-m.m c.loop-m.at c.loop-m.counter c.requires.steps c.loop-m.invariant.counter c.loop-m.invariant.place;
      votes = among_first c.args.cells.now (copies_below (Repeat c.args.steps.now) c.loop-m.m) c.loop-m.at _ c.vote_of-vote.result c.loop-m.invariant.place inside c.vote_of-vote.ensures;
    }

pub bounds-cells-at-in-loop-counter : goal.bounds-cells-at-in-loop-counter
bounds-cells-at-in-loop-counter c = omega (arith, again_fits c.args.steps.now c.loop-m.m (length c.args.out.now) c.loop-counter.at c.loop-counter.counter c.requires.steps c.loop-counter.invariant.counter c.loop-counter-test.true (omega arith), c.requires.cells)

pub with_cell-vote-requires : goal.with_cell-vote-requires
with_cell-vote-requires c =
    let inside : c.loop-counter.at < length c.args.cells.now = omega (arith, again_fits c.args.steps.now c.loop-m.m (length c.args.out.now) c.loop-counter.at c.loop-counter.counter c.requires.steps c.loop-counter.invariant.counter c.loop-counter-test.true (omega arith), c.requires.cells) in
    omega (arith, inside, c.requires.few, c.loop-counter.invariant.votes.few)

pub overflow_add-at-in-loop-counter : goal.overflow_add-at-in-loop-counter
overflow_add-at-in-loop-counter c =
    let inside : c.loop-counter.at < length c.args.cells.now = omega (arith, again_fits c.args.steps.now c.loop-m.m (length c.args.out.now) c.loop-counter.at c.loop-counter.counter c.requires.steps c.loop-counter.invariant.counter c.loop-counter-test.true (omega arith), c.requires.cells) in
    search rules

pub loop-counter-preserved : goal.loop-counter-preserved
loop-counter-preserved c =
    let s : Steps = c.args.steps.now in
    let from : ℕ = copies_below (Repeat s) c.loop-m.m in
    let inside : c.loop-counter.at < length c.args.cells.now = omega (arith, again_fits s c.loop-m.m (length c.args.out.now) c.loop-counter.at c.loop-counter.counter c.requires.steps c.loop-counter.invariant.counter c.loop-counter-test.true (omega arith), c.requires.cells) in
    record {
      counter = repeating_more s c.loop-m.m c.loop-counter.at c.loop-counter.counter c.loop-counter.invariant.counter c.loop-counter-test.true;
      votes = among_next c.args.cells.now from c.loop-counter.at _ c.loop-counter.vote c.with_cell-vote.result c.loop-counter.invariant.votes (omega (arith, c.loop-counter.invariant.counter.some)) inside c.with_cell-vote.ensures.zeros c.with_cell-vote.ensures.ones;
    }

pub loop-m-preserved : goal.loop-m-preserved
loop-m-preserved c =
    let s : Steps = c.args.steps.now in
    let m : ℕ = c.loop-m.m in
    let cells : List Trit = c.args.cells.now in
    let from : ℕ = copies_below (Repeat s) m in
    let last = repeating_last s m c.loop-counter.at c.loop-counter.counter c.requires.steps c.loop-counter.invariant.counter c.loop-counter-test.false in
    let count : c.loop-counter.at - from ≡ copies (Repeat s) m = omega (arith, last.1, below-more (Repeat s) m) in
    record {
      counter = last.0;
      place = last.1;
      counted = counted_more (Repeat s) cells c.loop-m.out m c.loop-counter.vote c.loop-m.invariant.counted (omega arith)
          (votes_among_are cells from (c.loop-counter.at - from) c.loop-counter.vote c.loop-counter.invariant.votes ∙ ap (votes_among cells from) count);
    }
