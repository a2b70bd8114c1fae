use Rattle.std.proofs.Common.{◌≡◌, ◌+◌, length, arith, ap, sym, ◌∙◌, refl, get_or}
use Rattle.dch_types.proofs.Sums.{total-zero, total-more}
use Rattle.dch_types.specs.Sums.{total}
use Rattle.dch_mac.specs.Best.{bits_in, bits_of, carried, carried_on, carried_below}
use Rattle.dch_mac.proofs.Lists.{zero_at, carried_is}
use Rattle.dch_mac.proofs.Counting.{carried_next}
use Rattle.dch_mac.proofs.moment.Moment.choice.Goals as goal

pub loop-i-init : goal.loop-i-init
loop-i-init c = record {
  eight = refl;
  sums = λ q less. zero_at q less ∙ sym (total-zero (carried_on c.args.self.now c.args.c (q + 1)));
  few = λ q less. omega (arith, zero_at q less);
  sum = omega (arith, total-zero (bits_in c.args.self.now c.args.c));
  small = omega arith;
}

pub loop-i-preserved : goal.loop-i-preserved
loop-i-preserved c = record {
  eight = c.add.auto.carried ∙ c.loop-i.invariant.eight;
  sums = λ q less.
      carried_next c.args.self.now c.args.c (q + 1) c.loop-i.i (get_or c.loop-i.carried q 0) (get_or c.add.new.carried q 0) (get_or c.row_in-row.result.now.carried q 0)
      (c.loop-i.invariant.sums q less) (c.add.ensures q less) (c.row_in-row.ensures.carried q less);
  few = λ q less. omega (arith, c.add.ensures q less, c.row_in-row.ensures.few q less, c.loop-i.invariant.few q less);
  sum = omega (arith, c.row_in-row.ensures.bits, c.loop-i.invariant.sum, total-more (bits_in c.args.self.now c.args.c) c.loop-i.i);
  small = omega (arith, c.row_in-row.ensures.small, c.loop-i.invariant.small);
}

pub returns-clause-choice : goal.returns-clause-choice
returns-clause-choice c =
    let all : c.loop-i.i ≡ length c.args.self.now.side.channels = omega (arith, ap length c.channels-i-end.ensures.value) in
    let sums = carried_is c.args.self.now c.args.c c.loop-i.carried c.loop-i.invariant.eight (λ q less. c.loop-i.invariant.sums q less ∙ ap (carried_below c.args.self.now c.args.c (q + 1)) all) in
    record {
      carried = sums ∙ ap (carried c.args.self.now) (sym c.index.ensures);
      bits = c.loop-i.invariant.sum ∙ ap (total (bits_in c.args.self.now c.args.c)) all ∙ ap (bits_of c.args.self.now) (sym c.index.ensures);
    }
