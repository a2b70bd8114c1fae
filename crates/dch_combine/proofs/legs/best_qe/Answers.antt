use Rattle.std.proofs.Common.{◌≡◌, ◌+◌, ℕ, Option, ap, arith, get_or, length, subst, sym}
use Rattle.dch_combine.specs.declared.leg.LegBuffer.{LegBuffer}
use Rattle.dch_combine.specs.Values.{frame_of, frames_in}
use Rattle.dch_combine.proofs.Estimates.{FindsBestOf, best_all, best_next}
use Rattle.dch_combine.proofs.Frames.{leg_here, no_leg}
use Rattle.dch_combine.proofs.legs.best_qe.Goals as goal

pub loop-k-preserved : goal.loop-k-preserved
loop-k-preserved c =
    let legs = frames_in c.args.legs.now in
    let k : ℕ = c.loop-k.k in
    let leg : LegBuffer = get_or c.args.legs.now k c.index-legs-k.result in
    let is : legs k ≡ frame_of leg = sym (ap frame_of (leg_here c.args.legs.now k c.index-legs-k.result (omega arith))) in
    subst (λ (best : Option ℕ). FindsBestOf legs (k + 1) best) (sym c.better-best.ensures) (best_next legs k c.loop-k.best leg.qe leg.blocks c.loop-k.invariant is)

pub returns : goal.returns
returns c =
    let legs = frames_in c.args.legs.now in
    let all : c.loop-k.k ≡ length c.args.legs.now = omega arith in
    best_all legs (length c.args.legs.now) c.loop-k.best (no_leg c.args.legs.now) (subst (λ n. FindsBestOf legs n c.loop-k.best) all c.loop-k.invariant)
