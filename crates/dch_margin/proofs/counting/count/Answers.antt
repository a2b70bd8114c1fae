use Rattle.std.proofs.Common.{◌≡◌, ◌<◌, ◌+◌, arith, ap, refl, ◌∙◌}
use Rattle.dch_frame.specs.Patterns.{copies}
use Rattle.dch_frame.specs.Walks.{Place}
use Rattle.dch_frame.proofs.KeptBits.{copies_inside}
use Rattle.dch_margin.specs.Counts.{IsCount}
use Rattle.dch_margin.proofs.Counts.{count_more}
use Rattle.dch_margin.proofs.counting.count.Goals as goal

pub loop-m-preserved : goal.loop-m-preserved
loop-m-preserved c =
    let inside : c.loop-m.m < c.args.pattern.now.len = omega (arith, c.loop-m-test.true, c.requires.whole) in
    let here : c.next.result ≡ copies c.args.pattern.now.kind c.loop-m.m = c.next.ensures.copies ∙ ap (λ (w : Place). copies w.pattern.kind w.bit) c.loop-m.invariant.0 in
    let count : IsCount (copies c.args.pattern.now.kind c.loop-m.m) (record { zeros = c.next.result; ones = 0 }) = record {
      zeros = here;
      ones = refl;
      few = omega (arith, copies_inside c.args.pattern.now c.loop-m.m inside, c.requires.few);
    } in (
      c.next.ensures.moved ∙ ap (λ (w : Place). record w { bit = w.bit + 1 }) c.loop-m.invariant.0,
      count_more (copies c.args.pattern.now.kind) c.loop-m.votes c.loop-m.m (record { zeros = c.next.result; ones = 0 }) (omega (arith, c.loop-m-test.true, c.loop-m.auto.votes)) count c.loop-m.invariant.1,
    )
