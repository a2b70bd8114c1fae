use Rattle.std.proofs.Common.{◌≡◌, ◌+◌, ℕ, get_or, subst, arith}
use Rattle.dch_trellis.specs.Classes.{class_metric}
use Rattle.dch_trellis.specs.Undamaged.{step_fewest, CostsFewest}
use Rattle.dch_trellis.proofs.Lead.{tail_more, tail_none}
use Rattle.dch_trellis.proofs.undamaged.fits_tail.Goals as goal

pub loop-k-preserved : goal.loop-k-preserved
loop-k-preserved c = record {
  small = c.after_input-state.type_inv;
  costs = λ later.
      let Fits : ℕ → Type 0 = λ state. class_metric c.step_votes.result (get_or c.args.outputs.now state 0) ≡ step_fewest c.step_votes.result in
      let Costs : ℕ → Type 0 = λ state. CostsFewest c.args.rate c.args.votes.now c.args.size (c.loop-k.k + 1) state in
      c.loop-k.invariant.costs
      (tail_more c.args.rate c.args.outputs.now c.args.votes.now c.step_votes.result c.args.size c.loop-k.k c.loop-k.state c.requires.outputs c.step_votes.ensures c.requires.coded (omega arith) (omega arith) c.loop-k.invariant.small (subst Fits c.from.ensures (c.fitting-zero.ensures.zero.0 c.if-not-zero.false)) (subst Costs c.after_input-state.ensures later));
}

pub returns : goal.returns
returns c = λ fits. c.loop-k.invariant.costs (tail_none c.args.rate c.args.votes.now c.args.size c.loop-k.k c.loop-k.state c.requires.coded (omega arith))
