use Rattle.std.proofs.Common.{◌≡◌, ◌+◌, ◌-◌, ◌∷◌, ◌&&◌, ℕ, [], List, Bool, length, get_or, ap, sym, ◌∙◌, arith}
use Rattle.std.specs.Prelude.{nat_lt}
use Rattle.dch_trellis.specs.Search.{BranchMetrics, branch_metric, is_free, choice, trace}
use Rattle.dch_trellis.specs.Steps.{by_zero, by_one}
use Rattle.dch_trellis.proofs.Spread.{total-light}
use Rattle.dch_trellis.proofs.Lowered.{walk_lowered}
use Rattle.dch_trellis.proofs.Rows.{walk_written, found-written}
use Rattle.dch_trellis.proofs.tiny.trace.Goals as goal

pub choose-bit-requires : goal.choose-bit-requires
choose-bit-requires c =
    omega (arith, total-light c.args.rate c.args.votes.now c.step_votes-step.result c.loop-k.k c.step_votes-step.ensures c.requires.light)

pub loop-k-preserved : goal.loop-k-preserved
loop-k-preserved c =
    let size : ℕ = length c.args.out.now in
    let k : ℕ = c.loop-k.k in
    let later : List ℕ = get_or c.args.rows.now (k + 1) [] in
    let p : BranchMetrics = branch_metric c.args.rate c.args.votes.now in
    let free : ℕ → Bool = is_free size c.args.filler in
    let chosen : c.choose-bit.result ≡ choice (free k && nat_lt (by_one later c.args.table.now c.step_votes-step.result c.loop-k.state) (by_zero later c.args.table.now c.step_votes-step.result c.loop-k.state)) =
    c.choose-bit.ensures ∙ ap (λ free. choice (free && nat_lt (by_one later c.args.table.now c.step_votes-step.result c.loop-k.state) (by_zero later c.args.table.now c.step_votes-step.result c.loop-k.state))) c.is_free.ensures in
    let step : trace p free (size + 8 - k) k c.loop-k.state ≡ c.choose-bit.result ∷ trace p free (size + 8 - (k + 1)) (k + 1) c.after_input-state.result =
    walk_lowered c.args.rate c.args.table.now c.args.votes.now c.step_votes-step.result size c.args.filler c.args.from k c.loop-k.state c.args.rows.now c.choose-bit.result c.requires.table c.step_votes-step.ensures (omega arith) (omega arith) c.loop-k.invariant.small c.requires.path_metrics chosen
    ∙ ap (λ state. c.choose-bit.result ∷ trace p free (size + 8 - (k + 1)) (k + 1) state) (sym c.after_input-state.ensures) in
    record {
      small = c.after_input-state.type_inv;
      written = walk_written _ _ _ c.loop-k.out k c.choose-bit.result c.loop-k.invariant.written step (omega arith);
    }

pub returns : goal.returns
returns c = found-written c.args.rate c.args.votes.now (length c.args.out.now) c.args.filler c.loop-k.k c.loop-k.out _ (omega arith) (omega arith) c.loop-k.invariant.written
