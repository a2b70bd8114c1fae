use Rattle.std.proofs.Common.{◌-◌, ◌<◌, ℕ, List, length, get_or, arith, rules, ap, sym, ◌∙◌}
use Rattle.dch_bits.specs.declared.bit.Trit.{Trit}
use Rattle.dch_bits.specs.declared.bit.Vote.{Vote}
use Rattle.dch_frame.specs.declared.pattern.Steps.{Steps}
use Rattle.dch_frame.specs.declared.pattern.Kind.TheVariants.{Puncture}
use Rattle.dch_frame.specs.Patterns.{copies_below}
use Rattle.dch_frame.proofs.Changes.{below-more}
use Rattle.dch_frame.specs.Votes.{votes_among}
use Rattle.dch_frame.proofs.Counters.{first_counter, removed, kept, kept_fits}
use Rattle.dch_frame.proofs.Counts.{counted_more, none_among, one_vote}
use Rattle.dch_frame.proofs.KeptBits.{copies_below-none}
use Rattle.dch_frame.proofs.votes.count_punctured.Goals as goal
use Rattle.dch_frame.proofs.votes.count_punctured.Goals.{then-counter-steps, else-counter-steps}

pub loop-m-init : goal.loop-m-init
loop-m-init c = record {
  counter = first_counter c.args.steps.now c.requires.steps;
  place = sym (copies_below-none (Puncture c.args.steps.now));
  counted = λ j v early. absurd (omega arith);
}

pub bounds-cells-at : goal.bounds-cells-at
bounds-cells-at c = omega (arith, kept_fits c.args.steps.now c.loop-m.m (length c.args.out.now) c.loop-m.at c.loop-m.counter c.requires.steps c.loop-m.invariant.counter (omega arith) (omega arith) c.loop-m.invariant.place, c.requires.cells)

pub overflow_add-at : goal.overflow_add-at
overflow_add-at c =
    let inside : c.loop-m.at < length c.args.cells.now = omega (arith, kept_fits c.args.steps.now c.loop-m.m (length c.args.out.now) c.loop-m.at c.loop-m.counter c.requires.steps c.loop-m.invariant.counter (omega arith) (omega arith) c.loop-m.invariant.place, c.requires.cells) in
    search rules

pub loop-m-preserved : goal.loop-m-preserved
loop-m-preserved c =
    let s : Steps = c.args.steps.now in
    let m : ℕ = c.loop-m.m in
    let at : ℕ = c.loop-m.at in
    let cells : List Trit = c.args.cells.now in
    elim c.if-counter-steps.branch [
      | then-counter-steps w ↦
          let gone = removed s m c.loop-m.counter c.requires.steps c.requires.once c.loop-m.invariant.counter w.if-counter-steps.true in
          record {
            counter = ap (λ n. n - s.e_minus) w.counter-is ∙ gone.0;
            place = omega (arith, w.at-is, c.loop-m.invariant.place, gone.1, below-more (Puncture s) m);
            counted = λ j v early.
                ap (λ (out : List Vote). get_or out j v) w.out-is
                ∙ counted_more (Puncture s) cells c.loop-m.out m _ c.loop-m.invariant.counted (omega arith)
                (none_among cells (copies_below (Puncture s) m) ∙ ap (votes_among cells (copies_below (Puncture s) m)) (sym gone.1))
                j v early;
          }
      | else-counter-steps w ↦
          let one = kept s m c.loop-m.counter c.requires.steps c.loop-m.invariant.counter w.if-counter-steps.false in
          let inside : at < length cells = omega (arith, kept_fits s m (length c.args.out.now) at c.loop-m.counter c.requires.steps c.loop-m.invariant.counter w.if-counter-steps.false (omega arith) c.loop-m.invariant.place, c.requires.cells) in
          record {
            counter = ap (λ n. n - s.e_minus) w.counter-is ∙ one.0;
            place = omega (arith, w.at-is, c.loop-m.invariant.place, one.1, below-more (Puncture s) m);
            counted = λ j v early.
                ap (λ (out : List Vote). get_or out j v) w.out-is
                ∙ counted_more (Puncture s) cells c.loop-m.out m w.vote_of.result c.loop-m.invariant.counted (omega arith)
                (one_vote cells at _ w.vote_of.result inside w.vote_of.ensures
                ∙ ap (λ at. votes_among cells at 1) c.loop-m.invariant.place
                ∙ ap (votes_among cells (copies_below (Puncture s) m)) (sym one.1))
                j v early;
          }
    ]
