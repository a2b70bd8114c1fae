use Rattle.std.proofs.Common.{◌≡◌, ◌+◌, ℕ, length, sym, ap, ◌∙◌, arith}
use Rattle.dch_types.specs.Sums.{total}
use Rattle.dch_types.proofs.Sums.{total-zero, total-more}
use Rattle.dch_collision.specs.SequenceCounts.{ways_with}
use Rattle.dch_collision.proofs.Ways.{ways_more, ways_few, with_fit, with_none}
use Rattle.dch_collision.proofs.legal_counting.sum.Goals as goal
use Rattle.dch_collision.proofs.legal_counting.sum.Goals.{then-fits, else-fits}

pub loop-combination-init : goal.loop-combination-init
loop-combination-init c = record {
  sum = omega (arith, total-zero (ways_with c.args.side.now c.args.channel c.args.format c.args.frame c.args.previous));
  small = omega arith;
}

pub overflow_add-sum : goal.overflow_add-sum
overflow_add-sum c =
    let here = c.requires.after c.loop-combination.combination (omega arith) in
    let few = ways_few c.args.side.now c.args.channel c.args.format (c.args.frame + 1) c.loop-combination.combination c.requires.good c.requires.channel (omega arith) in
    omega (arith, here, few, c.requires.good.few_combinations)

pub loop-combination-preserved : goal.loop-combination-preserved
loop-combination-preserved c =
    let n : ℕ = c.loop-combination.combination in
    let here = c.requires.after n (omega arith) in
    let few = ways_few c.args.side.now c.args.channel c.args.format (c.args.frame + 1) n c.requires.good c.requires.channel (omega arith) in
    let more = total-more (ways_with c.args.side.now c.args.channel c.args.format c.args.frame c.args.previous) n in
    elim c.if-fits.branch [
      | then-fits w ↦
          let fit = with_fit c.args.side.now c.args.channel c.args.format c.args.frame c.args.previous n (sym c.fits.ensures ∙ w.if-fits.true) in
          record { sum = omega (arith, w.sum-is, here, more, fit); small = omega (arith, w.sum-is, here, few) }
      | else-fits w ↦
          let none = with_none c.args.side.now c.args.channel c.args.format c.args.frame c.args.previous n (sym c.fits.ensures ∙ w.if-fits.false) in
          record { sum = omega (arith, w.sum-is, more, none); small = omega (arith, w.sum-is) }
    ]

pub returns : goal.returns
returns c =
    let all : c.loop-combination.combination ≡ length c.args.side.now.combinations = omega arith in
    c.loop-combination.invariant.sum ∙ ap (total (ways_with c.args.side.now c.args.channel c.args.format c.args.frame c.args.previous)) all
    ∙ sym (ways_more c.args.side.now c.args.channel c.args.format c.args.frame c.args.previous c.requires.frame)
