use Rattle.std.proofs.Common.{inr, sym, ◌∙◌}
use Rattle.dch_check.proofs.Outcomes.{only_well}
use Rattle.dch_check.proofs.Scripts.{ends_ill, ends_well}
use Rattle.dch_check.proofs.configured.follow_script.Goals as goal

pub returns-in-Ok-of : goal.returns-in-Ok-of
returns-in-Ok-of g c = λ state stands.
    let led = ends_well g.C.LineHandler.semantics g.C.LineHandler.represents _ _ c.args.front.now c.in-Ok.processor c.follow_rest-outcome.new.processor c.args.handler state _ _ _ c.follow_rest-outcome.result c.in-Ok.ensures c.offset.ensures.bytes c.offset.ensures.lines c.follow_rest-outcome.ensures stands (only_well c.follow_rest-outcome.result (sym c.in-Ok-of.is ∙ c.of.ensures)) in
    (led.0, (rw c.into_handler.ensures.handler led.1.0, led.1.1))

pub returns-in_default-of : goal.returns-in_default-of
returns-in_default-of g c = λ state stands. inr (ends_ill g.C.LineHandler.semantics g.C.LineHandler.represents _ _ c.args.front.now c.in-Ok.processor c.follow_rest-outcome.new.processor c.args.handler state _ _ _ c.follow_rest-outcome.result c.of.result c.in-Ok.ensures c.offset.ensures.bytes c.offset.ensures.lines c.follow_rest-outcome.ensures stands c.requires.memory c.of.ensures (λ is. c.in_default-of.not-Ok is))
