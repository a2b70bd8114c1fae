use Rattle.std.proofs.Common.{ℕ, Bool, ◌∙◌, sym, refl}
use Rattle.dch_frame.specs.Uplinks.{in_set2}
use Rattle.dch_frame.proofs.Sizes.{pass_over, hold, all_passed}
use Rattle.dch_frame.proofs.uplink_plan.raised_of_set2.Goals as goal
use Rattle.dch_frame.proofs.uplink_plan.raised_of_set2.Goals.{then-in_set2+else-needs_more, else-in_set2}

pub loop-size-preserved : goal.loop-size-preserved
loop-size-preserved c =
    let p : ℕ → Bool = in_set2 c.args.demand.now in
    elim c.if-in_set2.branch [
      | then-in_set2+else-needs_more w ↦ rw w.held-is (sym (hold p c.loop-size.held c.args.sizes.now c.loop-size.size-index _ c.loop-size-test.true refl (sym c.in_set2.ensures ∙ w.if-in_set2.true) (sym w.needs_more.ensures ∙ w.if-needs_more.false)) ∙ c.loop-size.invariant)
      | else-in_set2 w ↦ rw w.held-is (sym (pass_over p c.loop-size.held c.args.sizes.now c.loop-size.size-index _ c.loop-size-test.true refl (sym c.in_set2.ensures ∙ w.if-in_set2.false)) ∙ c.loop-size.invariant)
    ]

pub returns : goal.returns
returns c = sym (all_passed (in_set2 c.args.demand.now) c.loop-size.held c.args.sizes.now c.loop-size.size-index c.loop-size-test.false) ∙ c.loop-size.invariant
