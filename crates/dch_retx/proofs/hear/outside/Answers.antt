use Rattle.std.proofs.Common.{◌∙◌, sym}
use Rattle.dch_retx.proofs.Fields.{field_inside, field_outside}
use Rattle.dch_retx.proofs.hear.outside.Goals as goal

pub returns-then-is_some : goal.returns-then-is_some
returns-then-is_some c = sym (c.loop-cursor.invariant ∙ field_outside c.args.sent.window c.args.sent.first c.args.sent.count c.loop-cursor.cursor c.outside_field-found.result (sym c.is_done.ensures ∙ c.loop-cursor-test.true) c.outside_field-found.ensures (sym c.is_some.ensures ∙ c.if-is_some.true))

pub loop-cursor-preserved : goal.loop-cursor-preserved
loop-cursor-preserved c = c.loop-cursor.invariant ∙ field_inside c.args.sent.window c.args.sent.first c.args.sent.count c.loop-cursor.cursor c.advance.new.self c.outside_field-found.result (sym c.is_done.ensures ∙ c.loop-cursor-test.true) c.advance.ensures c.outside_field-found.ensures (sym c.is_some.ensures ∙ c.if-is_some.false)
