use Rattle.dch_lines.proofs.Parts.{appends_all, breaks_all, on_err, on_ok}
use Rattle.dch_lines.proofs.processor.LineProcessor.close.Goals as goal

pub returns-in-Ok-clause-ok : goal.returns-in-Ok-clause-ok
returns-in-Ok-clause-ok g c = rw (← c.self.view_is) (on_ok c.flush.result c.flush.ensures.ok (λ appends state is. appends_all _ _ _ _ _ _ _ (c.in-Ok.ensures.ok state is) appends))

pub returns-in-Ok-clause-err : goal.returns-in-Ok-clause-err
returns-in-Ok-clause-err g c = rw (← c.self.view_is) (on_err c.flush.result c.flush.ensures.err (λ breaks state is. breaks_all _ _ _ _ _ _ _ _ c.put_closing.ensures.later (c.in-Ok.ensures.ok state is) breaks))
