use Rattle.std.proofs.Common.{◌≡◌, ◌<◌, ◌+◌, ◌-◌, ℕ, List, get_or, set, length, ap, ◌∙◌, subst, arith, get_or-set_same}
use Rattle.dch_types.specs.Parts.{format_number}
use Rattle.dch_collision.specs.Steps.{IsLeastFit}
use Rattle.dch_collision.proofs.Following.{fits_format}
use Rattle.dch_collision.proofs.Filling.{filled, other_place}
use Rattle.dch_collision.proofs.legal_sequences.fill.Goals as goal

pub loop-frame-preserved : goal.loop-frame-preserved
loop-frame-preserved c =
    let frame : ℕ = c.loop-frame.frame in
    let v : ℕ = c.least_after.result in
    let xs : List ℕ = c.loop-frame.sequence in
    let inside : frame < length xs = omega arith in
    let back : frame + 1 - 1 ≡ frame = omega arith in
    let here : get_or (set xs frame v) (frame + 1 - 1) 0 ≡ v = ap (λ k. get_or (set xs frame v) k 0) back ∙ get_or-set_same xs frame v 0 inside in
    let least : IsLeastFit c.args.side.now c.args.channel c.args.format frame (get_or xs (frame - 1) 0) 0 v
    = subst (λ p. IsLeastFit c.args.side.now c.args.channel c.args.format frame p 0 v) c.from-previous.ensures c.least_after.ensures in
    record {
      there = omega (arith, here, c.least_after.ensures.there);
      format = ap (λ k. format_number c.args.side.now k c.args.channel) here
          ∙ fits_format c.args.side.now c.args.channel c.args.format frame (get_or xs (frame - 1) 0) v least.may;
      same = λ n less. other_place xs frame n v (omega arith) ∙ c.loop-frame.invariant.same n less;
      least = filled c.args.side.now c.args.channel c.args.format c.args.from frame xs v (omega arith) inside c.loop-frame.invariant.least least;
    }
