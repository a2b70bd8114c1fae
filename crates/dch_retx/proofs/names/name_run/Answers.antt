use Rattle.std.proofs.Common.{◌≡◌, ◌+◌, ◌-◌, ◌||◌, ap, arith, subst, sym, ◌∙◌}
use Rattle.std.specs.Prelude.{map}
use Rattle.dch_am.specs.Numbers.{range}
use Rattle.dch_retx.specs.StatusItems.{missing_of}
use Rattle.dch_retx.proofs.Fields.{IsNaming, naming_one, range_next}
use Rattle.dch_retx.proofs.names.name_run.Goals as goal
use Rattle.dch_retx.proofs.names.name_run.Goals.{then-named, else-named}

pub loop-k-preserved : goal.loop-k-preserved
loop-k-preserved c =
    let either : c.if-named.named ≡ (c.loop-k.named || c.name_one-here.result) = elim c.if-named.branch [
      | then-named w ↦ w.named-is ∙ (w.if-named.true ∙ sym (ap (λ b. b || c.name_one-here.result) w.if-named.true))
      | else-named w ↦ w.named-is ∙ sym (ap (λ b. b || c.name_one-here.result) w.if-named.false)
    ] in
    subst (λ b. IsNaming c.args.naming.first c.args.naming.polled c.args.naming.from c.args.naming.to (map missing_of (range c.args.run.0 (c.args.run.1 + 1))) (map missing_of (range (c.args.run.0 + (c.loop-k.k + 1)) (c.args.run.1 + 1 - (c.loop-k.k + 1)))) b c.args.flight.now c.name_one-here.new.flight) (sym either)
    (naming_one c.args.naming.first c.args.naming.polled c.args.naming.from c.args.naming.to _ _ _ _ c.loop-k.named c.name_one-here.result c.args.flight.now c.loop-k.flight c.name_one-here.new.flight (range_next c.args.run.0 c.loop-k.k (c.args.run.1 + 1) (omega arith)) c.name_one-here.ensures.named c.name_one-here.ensures.after c.loop-k.invariant)
