use Rattle.std.proofs.Common.{◌≡◌, ◌++◌, ◌||◌, List, ap, get_or, subst, sym, ◌∙◌}
use Rattle.dch_rlcpdu.specs.Fields.{Field, NoMoreField}
use Rattle.dch_retx.specs.StatusItems.{said_by, said_in}
use Rattle.dch_retx.proofs.Fields.{IsNaming, naming_part, said_next}
use Rattle.dch_retx.proofs.names.name.Goals as goal
use Rattle.dch_retx.proofs.names.name.Goals.{then-named, else-named}

pub loop-cursor-preserved : goal.loop-cursor-preserved
loop-cursor-preserved c =
    let either : c.if-named.named ≡ (c.loop-cursor.named || c.name_field-here.result) = elim c.if-named.branch [
      | then-named w ↦ w.named-is ∙ (w.if-named.true ∙ sym (ap (λ b. b || c.name_field-here.result) w.if-named.true))
      | else-named w ↦ w.named-is ∙ sym (ap (λ b. b || c.name_field-here.result) w.if-named.false)
    ] in
    subst (λ b. IsNaming c.args.naming.first c.args.naming.polled c.args.naming.from c.args.naming.to (said_by c.args.status.now) (said_by c.advance.new.self) b c.args.flight.now c.name_field-here.new.flight) (sym either)
    (naming_part c.args.naming.first c.args.naming.polled c.args.naming.from c.args.naming.to _ _ _ _ c.loop-cursor.named c.name_field-here.result c.args.flight.now c.loop-cursor.flight c.name_field-here.new.flight (said_next c.loop-cursor.cursor (sym c.is_done.ensures ∙ c.loop-cursor-test.true) ∙ ap (λ (fields : List Field). said_in (get_or c.loop-cursor.cursor 0 NoMoreField) ++ said_by fields) (sym c.advance.ensures)) c.name_field-here.ensures.named c.name_field-here.ensures.after c.loop-cursor.invariant)
