use Rattle.std.proofs.Common.{◌+◌, arith, refl, sym, ◌∙◌, length-set}
use Rattle.dch_mac.proofs.Lists.{zero_at}
use Rattle.dch_mac.proofs.Sharing.{waiting_none}
use Rattle.dch_mac.proofs.Counting.{count_next, count_small}
use Rattle.dch_mac.proofs.moment.Moment.counts.Goals as goal

pub loop-bearer-init : goal.loop-bearer-init
loop-bearer-init c = record {
  eight = refl;
  sums = λ q less. zero_at q less ∙ sym (waiting_none c.args.self.now c.args.i c.args.size (q + 1));
  small = λ q less. omega (arith, zero_at q less);
}

pub loop-bearer-preserved : goal.loop-bearer-preserved
loop-bearer-preserved c = record {
  eight = rw length-set c.loop-bearer.invariant.eight;
  sums = count_next c.args.self.now c.args.i c.args.size c.loop-bearer.bearer c.place-place.result c.from.result c.loop-bearer.counts (omega arith) c.place-place.ensures.value c.place-place.ensures.within (c.from.ensures ∙ c.offered.ensures) c.loop-bearer.invariant.sums;
  small = count_small c.place-place.result c.from.result c.loop-bearer.bearer c.loop-bearer.counts (omega arith) (omega arith) c.place-place.ensures.within c.loop-bearer.invariant.small;
}
