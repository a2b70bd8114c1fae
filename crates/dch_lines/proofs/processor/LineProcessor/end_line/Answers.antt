use Rattle.std.proofs.Common.{ap}
use Rattle.dch_lines.specs.Processor.{standing}
use Rattle.dch_lines.proofs.LineSteps.{line_added, line_stopped}
use Rattle.dch_lines.proofs.processor.LineProcessor.end_line.Goals as goal

pub returns-clause-ended : goal.returns-clause-ended
returns-clause-ended g c =
    let inside = c.self.inside in
    let parsed = rw c.deref.ensures.value at c.in-Ok.ensures.handles in
    rw (← c.self.view_is, c.clear.ensures.items) (λ state is.
    let said = parsed state is in
    (said.0, said.1, line_added g.C.LineHandler.semantics _ state said.0 inside.line.items inside.report.text c.process_line.new.report.text inside.bytes inside.lines inside.nonempty_lines c.in-Ok.nonempty_lines said.2))

pub returns-in-Err-clause-ended : goal.returns-in-Err-clause-ended
returns-in-Err-clause-ended g c = λ state is.
    let inside = c.self.inside in
    let here = rw (← c.self.view_is) at is in
    let said = c.in-Err.ensures.handles state here in
    (said.0, said.1, line_stopped g.C.LineHandler.semantics _ (standing state c.args.self.now) state said.0 inside.line.items _ inside.report.text c.process_line.new.report.text inside.bytes inside.lines inside.nonempty_lines c.in-Err.stop (ap (λ w. standing state w) c.self.view_is) c.deref.ensures.value said.2)
