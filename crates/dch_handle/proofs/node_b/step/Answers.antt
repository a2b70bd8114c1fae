use Rattle.std.proofs.Common.{arith}
use Rattle.dch_accept.specs.Reports.{step_bytes}
use Rattle.dch_nodeb.specs.Standing.{event_of}
use Rattle.dch_steptext.specs.Reports.{TellsFew}
use Rattle.dch_steptext.proofs.Reporting.{few_less}
use Rattle.dch_handle.specs.NodeBRules.{node_b_rules}
use Rattle.dch_handle.specs.Telling.{Enters}
use Rattle.dch_handle.proofs.Going.{goes, told_anew}
use Rattle.dch_handle.proofs.node_b.step.Goals as goal

few : (c : goal.After-step_with) → TellsFew Enters (step_bytes c.args.accepted.now.config) c.clear.new.self c.step_with.new.user
few c = few_less Enters 4000000 (step_bytes c.args.accepted.now.config) c.clear.new.self c.step_with.new.user (omega arith) c.step_with.ensures.few

pub step_with-requires-clause-opened : goal.step_with-requires-clause-opened
step_with-requires-clause-opened c = c.requires.plain.ready c.args.node.now c.requires.opened

pub returns-clause-next : goal.returns-clause-next
returns-clause-next c = c.requires.plain.keeps c.args.node.now c.step_with.new.self c.step_with.ensures.next

pub returns-clause-goes : goal.returns-clause-goes
returns-clause-goes c =
    let planned = c.args.accepted.now in
    let active = c.requires.plain.active c.args.node.now in
    goes node_b_rules (event_of planned c.args.event) planned planned c.args.node.now c.step_with.new.self (step_bytes planned.config)
    c.args.queue.now c.clear.new.self c.step_with.new.user c.clear.ensures c.requires.room (few c) (record {
      step = λ state stands. c.step_with.ensures.step planned state active stands;
      history = λ began first events lines was. c.step_with.ensures.history began planned first events lines active was;
    })

pub returns-clause-told : goal.returns-clause-told
returns-clause-told c =
    told_anew (step_bytes c.args.accepted.now.config) c.args.queue.now c.clear.new.self c.step_with.new.user c.clear.ensures c.requires.room (few c)
