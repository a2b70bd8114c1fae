use Rattle.std.proofs.Common.{◌≡◌, ◌<◌, ◌∙◌, ap, arith, subst}
use Rattle.std.specs.Prelude.{slice_index}
use Rattle.std.proofs.lemmas.List.{get_or_past}
use Rattle.dch_amsend.specs.Ages.{ages_at, since}
use Rattle.dch_amsend.proofs.Aging.{age_new, ages_next, length-ages}
use Rattle.dch_amsend.proofs.ages.oldest_from.Goals as goal

pub loop-i-preserved : goal.loop-i-preserved
loop-i-preserved c =
    let e : c.since.result ≡ since c.args.now (slice_index c.args.kept.now.items c.loop-i.i) = c.since.ensures ∙ ap (since c.args.now) c.tick_at.ensures in
    ages_next c.loop-i.i c.args.now c.args.kept.now.items (omega (arith, c.loop-i-test.true, c.len-i-end.ensures.len)) (omega (arith, e, c.if-since-lt65535.false)) ∙ c.loop-i.invariant

pub returns-then-since-lt65535-clause-younger : goal.returns-then-since-lt65535-clause-younger
returns-then-since-lt65535-clause-younger c =
    let e : c.since.result ≡ since c.args.now (slice_index c.args.kept.now.items c.loop-i.i) = c.since.ensures ∙ ap (since c.args.now) c.tick_at.ensures in
    subst (λ xs. slice_index xs c.loop-i.i < 65535) c.loop-i.invariant (omega (arith, age_new c.loop-i.i c.args.now c.args.kept.now.items c.loop-i.i (omega arith) (omega (arith, c.loop-i-test.true, c.len-i-end.ensures.len)), e, c.if-since-lt65535.true))

pub returns-clause-younger : goal.returns-clause-younger
returns-clause-younger c = omega (arith, get_or_past (ages_at c.args.before c.args.now c.args.kept.now.items) c.len.result 0 (omega (arith, length-ages c.args.before c.args.now c.args.kept.now.items, c.len.ensures.len)))
