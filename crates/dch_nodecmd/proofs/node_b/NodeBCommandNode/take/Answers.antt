use Rattle.dch_nodeb.specs.Standing.{event_of}
use Rattle.dch_nodecmd.proofs.node_b.NodeBCommandNode.take.Goals as goal

pub returns-clause-took : goal.returns-clause-took
returns-clause-took g c =
    let planned = c.args.accepted.now in
    record {
      event = event_of planned c.in-Some.event;
      says = c.in-Some.ensures.says.0;
      counted = c.in-Some.ensures.says.1;
      steps = λ state stands. c.step_with.ensures.step planned state (c.in-Some.ensures.plain.active c.args.self.now) stands;
    }

pub returns-clause-next : goal.returns-clause-next
returns-clause-next g c = c.in-Some.ensures.plain.keeps c.args.self.now c.step_with.new.self c.step_with.ensures.next
