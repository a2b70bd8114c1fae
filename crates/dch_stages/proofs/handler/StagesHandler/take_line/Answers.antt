use Rattle.dch_stages.proofs.Steps.{after_line, refuses_for, stands_on}
use Rattle.dch_stages.proofs.handler.StagesHandler.take_line.Goals as goal

pub returns-in-Ok-clause-ok : goal.returns-in-Ok-clause-ok
returns-in-Ok-clause-ok g c = λ state is.
    let a = after_line c.args.line.now state c.args.self.now _ is c.requires.ready.showing c.in-Ok.ensures.ok in
    (a.after, a.stands, record { more = _; handles = a.handles; wrote = c.put_answers.ensures.text })

pub returns-in-Ok-clause-ready : goal.returns-in-Ok-clause-ready
returns-in-Ok-clause-ready g c =
    let a = after_line c.args.line.now c.requires.ready.state c.args.self.now _ c.requires.ready.stands c.requires.ready.showing c.in-Ok.ensures.ok in
    record { showing = c.in-Ok.ensures.showing; rooms = c.put_answers.ensures.rooms; state = a.after; stands = a.stands }

pub returns-in-Err-clause-err : goal.returns-in-Err-clause-err
returns-in-Err-clause-err g c = λ state is. (refuses_for c.args.line.now state c.args.self.now _ is c.in-Err.ensures.err, stands_on state c.args.self.now _ is c.in-Err.ensures.same)
