use Rattle.dch_script.specs.Pair.{pair_of}
use Rattle.dch_paircmd.proofs.Handling.{event_early, event_leads}
use Rattle.dch_paircmd.proofs.handler.pass.Goals as goal

pub returns-in-Ok-happen-clause-ok : goal.returns-in-Ok-happen-clause-ok
returns-in-Ok-happen-clause-ok g c e is =
    event_leads g.P.Page.writes c.args.line.now (pair_of c.in-Ok.event) e c.happen.new.self c.args.page.now c.happen.new.page c.in-Ok.ensures.says (c.in-Ok-happen.ensures.answers e is)

pub returns-in-Ok-happen-clause-known : goal.returns-in-Ok-happen-clause-known
returns-in-Ok-happen-clause-known g c = let led = c.in-Ok-happen.ensures.answers c.requires.known.0 c.requires.known.1 in (led.after, led.ends)

pub returns-in-Err-happen-clause-err : goal.returns-in-Err-happen-clause-err
returns-in-Err-happen-clause-err g c e is =
    event_early g.P.Page.writes c.args.line.now (pair_of c.in-Ok.event) e c.happen.new.self c.in-Err-happen.why c.args.page.now c.happen.new.page c.in-Ok.ensures.says (c.in-Err-happen.ensures.answers e is)
