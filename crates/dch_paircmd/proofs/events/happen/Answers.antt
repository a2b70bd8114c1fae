use Rattle.std.proofs.Common.{subst, sym}
use Rattle.dch_script.specs.Pair.{pair_of}
use Rattle.dch_paircmd.specs.Handlers.{Answers, LeadsTo}
use Rattle.dch_paircmd.proofs.Leading.{began_reset, lost_or_none, ticked}
use Rattle.dch_paircmd.proofs.events.happen.Goals as goal

pub returns-in-Tick-clause-answers : goal.returns-in-Tick-clause-answers
returns-in-Tick-clause-answers g c rules s are =
    subst (λ l. LeadsTo g.P.Page.writes rules s (pair_of l) c.tick.new.self c.args.far.now c.args.page.now c.args.page.now) (sym c.in-Tick.is)
    (ticked g.P.Page.writes rules s c.in-Tick.end c.args.near.now c.args.far.now c.tick.new.self c.args.page.now (g.met.P.Page.nothing c.args.page.now) are (c.tick.ensures.stands rules s.near are.one))

pub returns-in-Reset-clause-answers : goal.returns-in-Reset-clause-answers
returns-in-Reset-clause-answers g c rules s are =
    subst (λ l. LeadsTo g.P.Page.writes rules s (pair_of l) c.reset.new.self c.args.far.now c.args.page.now c.args.page.now) (sym c.in-Reset.is)
    (began_reset g.P.Page.writes rules s c.in-Reset.end c.args.near.now c.args.far.now c.reset.new.self c.args.page.now (g.met.P.Page.nothing c.args.page.now) are (c.reset.ensures.stands rules s.near are.one))

pub returns-in-Lose-clause-answers : goal.returns-in-Lose-clause-answers
returns-in-Lose-clause-answers g c rules s are =
    let page = g.P.Page in
    subst (λ l. Answers page.writes c.lose.result rules s (pair_of l) c.lose.new.near c.args.far.now c.args.page.now c.args.page.now) (sym c.in-Lose.is)
    (lost_or_none page.writes c.lose.result rules s c.in-Lose.end c.args.near.now c.lose.new.near c.args.far.now c.args.page.now (g.met.P.Page.nothing c.args.page.now) are c.lose.ensures.ok c.lose.ensures.err)
