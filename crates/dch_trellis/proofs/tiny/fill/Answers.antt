use Rattle.std.proofs.Common.{◌≡◌, ◌+◌, ◌-◌, ◌*◌, ◌%◌, ◌<◌, ◌≤◌, ℕ, [], List, get_or, ap, sym, subst, ◌∙◌, inr, arith}
use Rattle.dch_bits.specs.declared.bit.Vote.{Vote}
use Rattle.dch_trellis.specs.Steps.{near, total}
use Rattle.dch_trellis.specs.Tiny.{IsFilled}
use Rattle.dch_trellis.specs.Classes.{row_near, class_metric}
use Rattle.dch_trellis.proofs.Pairs.{near-le}
use Rattle.dch_trellis.proofs.Classes.{class_metric-near}
use Rattle.dch_trellis.proofs.Lowered.{filled_more, filled_lower, least_lowered}
use Rattle.dch_trellis.proofs.Spread.{total-light}
use Rattle.dch_trellis.proofs.tiny.fill.Goals as goal
use Rattle.dch_trellis.proofs.tiny.fill.Goals.{then-done-eq7, else-done-eq7}

pub fill_row-requires-clause-near : goal.fill_row-requires-clause-near
fill_row-requires-clause-near c = λ i small.
    let step : List Vote = c.step_votes-step.result in
    omega (arith, c.total_of.ensures, near-le c.args.table.now step i, c.pair_metrics.ensures i small ∙ ap (class_metric step) (c.classes_of-classes.ensures i small) ∙ class_metric-near c.args.table.now step i)

pub fill_row-requires-clause-room : goal.fill_row-requires-clause-room
fill_row-requires-clause-room c = λ s small.
    let k : ℕ = c.args.size + 7 - c.loop-done.done in
    let next : c.args.size + 8 - c.loop-done.done ≡ k + 1 = omega arith in
    let bound : get_or (get_or c.loop-done.rows (k + 1) []) s 0 ≤ 120 + 15 * (c.loop-done.done % 8) = subst (λ k. get_or (get_or c.loop-done.rows k []) s 0 ≤ 120 + 15 * (c.loop-done.done % 8)) next (c.loop-done.invariant.filled.small s small) in
    omega (arith, bound, c.total_of.ensures, total-light c.args.rate c.args.votes.now c.step_votes-step.result k c.step_votes-step.ensures c.requires.light)

pub loop-done-preserved : goal.loop-done-preserved
loop-done-preserved c =
    let k : ℕ = c.args.size + 7 - c.loop-done.done in
    let step : List Vote = c.step_votes-step.result in
    let most : ℕ = 120 + 15 * (c.loop-done.done % 8) in
    let here : c.args.size + 8 - (c.loop-done.done + 1) ≡ k = omega arith in
    let metrics : (i : ℕ) → i < 128 → get_or c.pair_metrics.new.near i 0 ≡ near c.args.table.now step i = λ i small. c.pair_metrics.ensures i small ∙ ap (class_metric step) (c.classes_of-classes.ensures i small) ∙ class_metric-near c.args.table.now step i in
    let few : total step ≤ 15 = total-light c.args.rate c.args.votes.now step k c.step_votes-step.ensures c.requires.light in
    let filled : IsFilled c.args.rate c.args.votes.now c.args.size c.args.filler k c.loop-done.taken (most + 15) c.fill_row.new.rows =
    filled_more c.args.rate c.args.table.now c.args.votes.now step c.args.size c.args.filler k (c.args.size + 8 - c.loop-done.done) c.loop-done.taken most c.total_of.result c.pair_metrics.new.near c.loop-done.rows c.fill_row.new.rows c.requires.table c.step_votes-step.ensures c.requires.light (omega arith) (omega arith) c.loop-done.invariant.filled c.fill_row.ensures.same c.total_of.ensures (omega (arith, c.total_of.ensures, few)) metrics
    (λ i small. omega (arith, metrics i small, near-le c.args.table.now step i, c.total_of.ensures))
    (λ s small. c.fill_row.ensures.row s small ∙ ap (λ free. row_near free (get_or c.loop-done.rows (k + 1) []) c.pair_metrics.new.near c.total_of.result s) c.is_free.ensures) in
    elim c.if-done-eq7.branch [
      | then-done-eq7 w ↦
          let lowered : IsFilled c.args.rate c.args.votes.now c.args.size c.args.filler k (c.loop-done.taken + w.from-taken.result) 120 w.lower_row.new.rows =
          filled_lower c.args.rate c.args.votes.now c.args.size c.args.filler k c.loop-done.taken (most + 15) w.from-taken.result c.fill_row.new.rows w.lower_row.new.rows c.requires.light filled w.lower_row.ensures.same (λ s small. omega (arith, w.lower_row.ensures.row s small, w.from-taken.ensures)) w.lower_row.ensures.least in
          let bound : 120 + 15 * ((c.loop-done.done + 1) % 8) ≡ 120 = omega (arith, w.if-done-eq7.true) in
          record {
            filled = rw (here, w.rows-is, w.taken-is, bound) lowered;
            few = omega (arith, w.taken-is, w.from-taken.ensures, w.lower_row.type_inv, c.loop-done.invariant.few);
          }
      | else-done-eq7 w ↦
          let bound : 120 + 15 * ((c.loop-done.done + 1) % 8) ≡ most + 15 = omega (arith, w.if-done-eq7.false) in
          record {
            filled = rw (here, w.rows-is, w.taken-is, bound) filled;
            few = omega (arith, w.taken-is, c.loop-done.invariant.few);
          }
    ]

pub returns-then-rows-next-eq0-clause-rows : goal.returns-then-rows-next-eq0-clause-rows
returns-then-rows-next-eq0-clause-rows c = c.loop-done.invariant.filled.rows_from

pub returns-then-rows-next-eq0-clause-first : goal.returns-then-rows-next-eq0-clause-first
returns-then-rows-next-eq0-clause-first c = c.loop-done.invariant.filled.here

pub returns-then-rows-next-eq0-clause-least : goal.returns-then-rows-next-eq0-clause-least
returns-then-rows-next-eq0-clause-least c =
    let next : ℕ = c.args.size + 8 - c.loop-done.done in
    let row : List ℕ = get_or c.loop-done.rows next [] in
    inr (least_lowered c.args.rate c.args.votes.now c.args.size c.args.filler next c.loop-done.taken (get_or c.args.front.now.states next 0) row c.loop-done.invariant.filled.here (c.requires.states next c.if-next-front.true) (ap (λ s. get_or row s 0) (sym c.from.ensures) ∙ c.if-rows-next-eq0.true))
