use Rattle.std.proofs.Common.{◌≡◌, ◌+◌, ◌||◌, ap, arith, drop, subst, sym, ◌∙◌}
use Rattle.std.specs.Prelude.{map}
use Rattle.dch_rlcpdu.specs.Fields.{pairs_of}
use Rattle.dch_am.specs.Names.{named}
use Rattle.dch_retx.specs.StatusItems.{first_of, missing_of}
use Rattle.dch_retx.proofs.Fields.{IsNaming, naming_part, numbers_of}
use Rattle.dch_retx.proofs.names.name_list.Goals as goal
use Rattle.dch_retx.proofs.names.name_list.Goals.{then-named, else-named}

pub loop-j-preserved : goal.loop-j-preserved
loop-j-preserved c =
    let either : c.if-named.named ≡ (c.loop-j.named || c.name_run-here.result) = elim c.if-named.branch [
      | then-named w ↦ w.named-is ∙ (w.if-named.true ∙ sym (ap (λ b. b || c.name_run-here.result) w.if-named.true))
      | else-named w ↦ w.named-is ∙ sym (ap (λ b. b || c.name_run-here.result) w.if-named.false)
    ] in
    subst (λ b. IsNaming c.args.naming.first c.args.naming.polled c.args.naming.from c.args.naming.to (map missing_of (named (pairs_of (first_of c.args.cursor.now)))) (map missing_of (named (drop (c.loop-j.j + 1) (pairs_of (first_of c.args.cursor.now))))) b c.args.flight.now c.name_run-here.new.flight) (sym either)
    (naming_part c.args.naming.first c.args.naming.polled c.args.naming.from c.args.naming.to _ _ _ _ c.loop-j.named c.name_run-here.result c.args.flight.now c.loop-j.flight c.name_run-here.new.flight (numbers_of (pairs_of (first_of c.args.cursor.now)) c.loop-j.j c.pair-run.result (omega arith) (sym c.pair-run.ensures.value)) c.name_run-here.ensures.named c.name_run-here.ensures.after c.loop-j.invariant)
