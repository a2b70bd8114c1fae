use Rattle.dch_accept.specs.Reports.{step_bytes}
use Rattle.dch_handle.proofs.Going.{goes, told_anew}
use Rattle.dch_handle.proofs.node_run.change.Goals as goal

pub returns-clause-goes : goal.returns-clause-goes
returns-clause-goes g c = λ before next.
    let planned = c.args.accepted.now in
    let rules = g.N.SessionNode.rules in
    goes rules (rules.change planned) before planned c.args.node.now c.change.new.self (step_bytes planned.config)
    c.args.queue.now c.clear.new.self c.change.new.user c.clear.ensures c.requires.room c.change.ensures.few (c.change.ensures.goes before next)

pub returns-clause-told : goal.returns-clause-told
returns-clause-told g c =
    told_anew (step_bytes c.args.accepted.now.config) c.args.queue.now c.clear.new.self c.change.new.user c.clear.ensures c.requires.room c.change.ensures.few
